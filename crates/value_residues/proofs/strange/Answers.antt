-- `value_residues::strange` meets its contract: by the class.
use Rattle.value_residues.specs.Residues.{Strange}
use Rattle.std.proofs.Common.{ℕ, sym, subst, arith}
use Rattle.value_residues.proofs.strange.Goals as goal

pub returns-then-class-eq2 : goal.returns-then-class-eq2
returns-then-class-eq2 c = subst (λ (k : ℕ). Strange c.args.b k c.no_amino.result) (sym c.if-class-eq2.true) c.no_amino.ensures

pub returns-then-class-ne1 : goal.returns-then-class-ne1
returns-then-class-ne1 c = record { none = λ h. absurd (omega arith) }

pub returns-then-rarer : goal.returns-then-rarer
returns-then-rarer c = subst (λ (k : ℕ). Strange c.args.b k c.no_nucleotide.result) (omega arith) c.no_nucleotide.ensures

pub returns : goal.returns
returns c = subst (λ (k : ℕ). Strange c.args.b k c.no_base.result) (omega arith) c.no_base.ensures
