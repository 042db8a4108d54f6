-- The residues of an accepted sequence are symbols, each written as itself: so their size is L, and no other byte stands among them.
use Prim.Native.Nat.{ℕ, ◌+◌, ◌%◌}
use native.Mathlib.Omega.{arith}
use mathlib.Core.Path.{◌≡◌, refl, sym, ap, ◌∙◌}
use mathlib.Core.List.{List}
use lib.ListN.{length}
use Rattle.paper.specs.Bytes.{raw, all}
use Rattle.paper.specs.Rules.{Kind, dna, rna, aa, is_symbol}
use Rattle.paper.specs.Answers.{Part}
use Rattle.paper.proofs.Leading.{leading_all}
use Rattle.value_words.specs.declared.Molecule.{Molecule}
use Rattle.value_words.proofs.Read.{raw_plain}
use Rattle.walk_steps.specs.declared.Range.{Range}
use Rattle.ask_answers.specs.declared.Stretch.{Stretch}
use Rattle.ask_show.specs.Shown.{StretchOf}
use Rattle.ask_translation.proofs.Kept.{symbols}
use Rattle.ask_found.specs.Answers.{TopOf, KnowsFound}
use Rattle.ask_found.proofs.Accepted.{accepts, named}

raw_symbols : (d : Kind) (v : List ℕ) → all (is_symbol d) v → raw v ≡ v
raw_symbols dna v h = raw_plain (is_symbol dna) refl v h
raw_symbols rna v h = raw_plain (is_symbol rna) refl v h
raw_symbols aa v h = raw_plain (is_symbol aa) refl v h

pub size_is_top : {p : Range} {x : Stretch} {r : ℕ} → StretchOf p x → r ≡ x.size % 4294967296 → TopOf p r
size_is_top s e =
    record {
      says =
          λ w k q finds i.
          let a = accepts finds in
          let d = named a in
          let z = s.says w q.residues i in
          let size = ap (λ (y : Part). y.size) z.0 ∙ ap length (raw_symbols d.0 q.residues.read (symbols a.texts d.0 d.1)) in
          omega (arith, e, size, z.1, a.short);
    }

pub knows_found : {c : Molecule} {p : Range} {t : ℕ} → TopOf p t → KnowsFound c p (record { kind = c; top = t; foreign = p.to; residues = p })
knows_found h =
    record {
      says =
          λ w k q finds is i.
          let v = q.residues in
          record {
            kind = is;
            size = h.says w k q finds i;
            foreign =
                λ d e.
                i.behind ∙ ap (λ (y : List ℕ). v.place + length (raw y)) (sym (leading_all (is_symbol d) v.read (symbols (accepts finds).texts d e)));
            residues = i;
          };
    }
