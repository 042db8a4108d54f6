-- What is known of a sequence by its body: its kind, which the index gives as a number.
use Prim.Native.Nat.{ℕ}
use native.Mathlib.Omega.{arith}
use mathlib.Core.Path.{◌≡◌, ◌∙◌}
use mathlib.Core.List.{List}
use Rattle.paper.specs.Tree.{Sequence}
use Rattle.paper.specs.Rules.{Kind, dna, rna, aa, IsKind}
use Rattle.paper.specs.Rules as Rules
use Rattle.paper.specs.Answers.{kind_number}
use Rattle.paper.specs.Answers as paper
use Rattle.paper.proofs.Index.{kind_in_lem}
use Rattle.value_words.specs.Reading.{KindIs}
use Rattle.value_words.specs.declared.Molecule.{Molecule}
use Rattle.value_words.specs.declared.Molecule.TheVariants.{Dna, Rna, Aa, Other}
use Rattle.judge_faults.specs.Known.{Knows}
use Rattle.judge_faults.specs.declared.Known.{Known}
use Rattle.index_find.specs.Finds.{molecule_number}
use Rattle.index_find.specs.declared.Body.{Body}
use Rattle.ask_found.specs.Answers.{KnowsFound}
use Rattle.ask_found.proofs.Accepted.{accepts, named}
use Rattle.ask_indexed.specs.Finds.{BodyHere}
use Rattle.ask_indexed.proofs.Found.{residues_part}

-- the kind of a number is the one that the moltype names
kind_numbered : (q : Sequence ℕ) (c : Molecule) (d : Kind) → molecule_number c ≡ kind_number d → IsKind d q → KindIs q.moltype.read c
kind_numbered q Dna dna e h = h
kind_numbered q Dna rna e h = absurd (omega (arith, e))
kind_numbered q Dna aa e h = absurd (omega (arith, e))
kind_numbered q Rna dna e h = absurd (omega (arith, e))
kind_numbered q Rna rna e h = h
kind_numbered q Rna aa e h = absurd (omega (arith, e))
kind_numbered q Aa dna e h = absurd (omega (arith, e))
kind_numbered q Aa rna e h = absurd (omega (arith, e))
kind_numbered q Aa aa e h = h
kind_numbered q Other dna e h = absurd (omega (arith, e))
kind_numbered q Other rna e h = absurd (omega (arith, e))
kind_numbered q Other aa e h = absurd (omega (arith, e))

unskipped : {w : List ℕ} {k : ℕ} {q : Sequence ℕ} → paper.FindsSequence w k (paper.give q) → ¬ Rules.Skipped q
unskipped (paper.sequence c n u) = u

module _ {w x : List ℕ} {k : ℕ} {b : Body} (i : BodyHere w x k b) where
  pub body_kind : KindIs i.asked.moltype.read b.kind
  body_kind =
      let n = named (accepts i.finds) in
      kind_numbered i.asked b.kind n.0 (i.is.kind ∙ kind_in_lem i.asked n.0 n.1 (unskipped i.finds)) n.1

  pub body_knows : {r : Known} → KnowsFound b.kind b.residues r → Knows w i.asked r
  body_knows h = h.says w k i.asked i.finds body_kind (residues_part i)
