-- What is promised of one translation that is measured or written.
use Rattle.std.specs.Prelude.{ℕ, ◌≡◌, Bool, true, false, cond, Result, List, length}
use Rattle.paper.specs.Tree.{Sequence, Feature}
use Rattle.paper.specs.Locations.{Location}
use Rattle.paper.specs.Translation.{Code}
use Rattle.paper.specs.Answers.{Outcome, Translates, Lent}
use Rattle.lent_room.specs.declared.Pass.{Pass}
use Rattle.lent_room.specs.declared.Pass.TheVariants.{Measure, Write}
use Rattle.walk_items.specs.Items.{IsFeature}
use Rattle.walk_items.specs.declared.FoundFeature.{FoundFeature}
use Rattle.protein_codons.specs.Reading.{Codes}
use Rattle.protein_codons.specs.Letters.{letters_of}
use Rattle.protein_measure.specs.Measuring.{Measured}
use Rattle.protein_measure.specs.declared.Untranslated.{Untranslated}
use Rattle.protein_write.specs.Writing.{after_of}
use Rattle.judge_faults.specs.Known.{Knows}
use Rattle.judge_faults.specs.declared.Known.{Known}
use Rattle.ask_translation.specs.Refusals.{answer_of}
use Rattle.ask_translation.specs.Plans.{Keeps, PlanIs}
use Rattle.ask_translation.specs.declared.Plan.{Plan}
use Rattle.ask_translation.specs.declared.Unwritten.{Unwritten}
use Rattle.ask_answers.specs.Stretches.{LentAnswer}
use Rattle.ask_answers.specs.Given.{LentGivenBy}

-- ---- measured, or written too

abbrev pub pass_of : Bool → Pass
pass_of true = Write
pass_of false = Measure

-- the answer is that of writing; what was lent is left so if it is to be written, and else as it was
pub record LentIf (on : Bool) (out : List ℕ) (o : Outcome (List ℕ)) (r : LentAnswer) (after : List ℕ) : Type 0 where
  pub later : List ℕ
  pub lent : LentGivenBy (Lent out o) r later
  pub is : after ≡ cond on later out

-- of whichever location
pub record LaysTranslation (gc : Code) (s loc : List ℕ) (L start : ℕ) (on : Bool) (out : List ℕ) (r : Result ℕ Untranslated) (after : List ℕ) : Type 0 where
  pub says : (t : Location) → Codes s loc L t
      → Measured (letters_of gc s start t) (length out) r × (after ≡ cond on (after_of (letters_of gc s start t) out r) out)

-- ---- one feature

-- the outcome for f, and what is then in the lent bytes
pub record GivesIf (on : Bool) (q : Sequence ℕ) (f : Feature ℕ) (out : List ℕ) (r : LentAnswer) (after : List ℕ) : Type 0 where
  pub outcome : Outcome (List ℕ)
  pub translates : Translates q f outcome
  pub laid : LentIf on out outcome r after

-- of whichever feature that is planned so
pub record LaysPlanned (s : List ℕ) (known : Known) (g : FoundFeature) (p : Plan) (on : Bool) (out : List ℕ) (r : Result ℕ Unwritten) (after : List ℕ) : Type 0 where
  pub says : (q : Sequence ℕ) (f : Feature ℕ) (e : ℕ) → Knows s q known → IsFeature s f e g → PlanIs s q f p → GivesIf on q f out (answer_of r) after

pub record TranslatesOne (s : List ℕ) (known : Known) (g : FoundFeature) (out : List ℕ) (r : LentAnswer) (after : List ℕ) : Type 0 where
  pub says : (q : Sequence ℕ) (f : Feature ℕ) (e : ℕ) → Knows s q known → IsFeature s f e g → Keeps q f → GivesIf true q f out r after
