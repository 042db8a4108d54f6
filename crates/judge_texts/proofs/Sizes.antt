-- L, and the first residue that is no symbol: what is known of a sequence.
use Rattle.std.proofs.Common.{◌≡◌, ℕ, ◌+◌, ◌-◌, ◌%◌, ◌≤◌, List, length, take, drop, sym, ap, ◌∙◌, subst, arith, length-append, length-drop, take_all}
use Rattle.paper.specs.Bytes.{raw, leading}
use Rattle.paper.proofs.Texts.{raw_longer}
use Rattle.paper.specs.Tree.{Text}
use Rattle.paper.specs.Rules.{Kind, is_symbol}
use Rattle.read_steps.specs.Parts.{ShowsBytes}
use Rattle.value_words.specs.Reading.{Moltypes}
use Rattle.value_words.specs.declared.Molecule as code
use Rattle.value_residues.specs.Residues.{Characters, Symbols, symbol_class}
use Rattle.value_residues.proofs.Residues.{cut_there}
use Rattle.walk_steps.specs.Stands.{IsPart}
use Rattle.walk_steps.specs.declared.Range.{Range}
use Rattle.judge_faults.specs.Known.{CodeOf}
use Rattle.judge_faults.proofs.Bytes.{part_shows}
use Rattle.judge_faults.proofs.Moltypes.{code_is}
use Rattle.judge_texts.specs.Texts.{Sized, LengthOf, Scans, KnowsOf}

-- what stands in a listing ends in it
part_within : {s : List ℕ} {x : Text ℕ} {p : Range} → IsPart s x p → p.from + length (raw x.read) ≤ length s
part_within {s} {x} {p} i =
    omega (arith, i.inside, length-drop p.from s, ap length i.here, length-append (raw x.read) (drop p.to s))

-- what stands behind the first n bytes is counted
pub length_by : (w : List ℕ) (n : ℕ) {r : ℕ} → Characters (take (length w - n) (drop n w)) r → LengthOf w n (n + r)
length_by w n {r} h =
    record { says = λ x e. ap (λ (m : ℕ). n + m) (h.says x (take_all (length w - n) (drop n w) (omega (arith, length-drop n w)) ∙ e)) }

-- for a kind, of whose symbols the class is
pub scans_by : (k : Kind) {w : List ℕ} {class r : ℕ} {c : code.Molecule} → class ≡ symbol_class k → ((j : Kind) → CodeOf c j → j ≡ k) → Symbols w class r → Scans w c r
scans_by k {r = r} e only h =
    record {
      within = h.within;
      says = λ v z j o. subst (λ (i : Kind). r ≡ length (raw (leading (is_symbol i) v))) (sym (only j o)) (h.says k e v z);
      rest = λ v z. cut_there k v z (h.says k e v z);
    }

pub knows : {s wm wr : List ℕ} {moltype residues : Range} {c : code.Molecule} {n size top foreign : ℕ} → ShowsBytes s moltype.from moltype.to wm → Moltypes wm c
    → ShowsBytes s residues.from residues.to wr → Scans wr c n → LengthOf wr n size → Sized size top → foreign ≡ (residues.from + n) % 18446744073709551616
    → KnowsOf s moltype residues (record { kind = c; top = top; foreign = foreign; residues = residues })
knows {c = c} {n} hm m hr scan ln sz ef =
    record {
      says =
          λ q short im ir.
          let v = q.residues.read in
          let k = m.says q.moltype.read (part_shows im hm) in
          let e = part_shows ir hr in
          let x = scan.rest v e in
          let size = ln.says x.0 x.1 ∙ sym x.2 in
          record {
            kind = k;
            size = sz.is (omega (arith, size, short, raw_longer v, part_within ir)) ∙ size;
            foreign = λ j h. omega (arith, ef, ir.first, scan.within, ap length e, part_within ir, short, scan.says v e j (code_is q.moltype.read c k j h));
            residues = ir;
          };
    }
