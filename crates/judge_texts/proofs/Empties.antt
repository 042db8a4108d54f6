-- A text that is empty, and a skipped sequence that holds nothing (rule 29).
use Rattle.std.proofs.Common.{◌≡◌, ℕ, List, [], ◌∷◌, length, refl, ap, arith}
use lib.Dec.{eqb}
use borrow.Author.Tests.{eqb-true, eqb-false}
use Rattle.paper.specs.Bytes.{raw}
use Rattle.paper.proofs.Texts.{raw_longer}
use Rattle.value_words.proofs.Tests.{tells}
use Rattle.walk_steps.specs.declared.Range.{Range}
use Rattle.judge_texts.specs.Texts.{TellsBlank}

no_length : (v : List ℕ) → length v ≡ 0 → v ≡ []
no_length [] e = refl
no_length (b ∷ v) e = absurd (omega (arith, e))

pub blank_told : (p : Range) → TellsBlank p (eqb p.from p.to)
blank_told p =
    record {
      says =
          λ s t i.
          tells (eqb p.from p.to) (λ e. no_length t.read (omega (arith, eqb-true p.from p.to e, i.first, i.behind, raw_longer t.read)))
          (λ n e. eqb-false p.from p.to n (omega (arith, i.first, i.behind, ap (λ (v : List ℕ). length (raw v)) e)));
    }
