-- Whether every residue is a symbol, by the place of the first that is none.
use Prim.Native.Nat.{ℕ, ◌≤◌, ◌<◌}
use native.Mathlib.Omega.{arith}
use mathlib.Core.Path.{ap}
use mathlib.Core.List.{List}
use lib.ListN.{length}
use lib.Dec.{leb}
use borrow.Author.Tests.{leb-true, leb-false}
use Rattle.paper.specs.Bytes.{raw, all}
use Rattle.paper.specs.Tree.{Sequence}
use Rattle.paper.specs.Rules.{Kind, IsKind, is_symbol}
use Rattle.paper.proofs.Leading.{leading_all, all_leading}
use Rattle.value_words.specs.Reading.{Tells}
use Rattle.value_words.proofs.Tests.{tells}
use Rattle.judge_faults.specs.Known.{Knows}
use Rattle.judge_faults.specs.declared.Known.{Known}

module _ {s : List ℕ} {q : Sequence ℕ} {x : Known} (k : Knows s q x) (j : Kind) (i : IsKind j q) where
  pub symbols_all : x.residues.to ≤ x.foreign → all (is_symbol j) q.residues.read
  symbols_all h = all_leading (is_symbol j) q.residues.read (omega (arith, h, k.foreign j i, k.residues.behind))

  pub symbols_not : x.foreign < x.residues.to → ¬ all (is_symbol j) q.residues.read
  symbols_not h a =
      omega (arith, h, k.foreign j i, k.residues.behind, ap (λ (v : List ℕ). length (raw v)) (leading_all (is_symbol j) q.residues.read a))

  pub symbols_told : Tells (leb x.residues.to x.foreign) (all (is_symbol j) q.residues.read)
  symbols_told = tells (leb x.residues.to x.foreign) (λ e. symbols_all (leb-true _ _ e)) (λ e. symbols_not (leb-false _ _ e))
