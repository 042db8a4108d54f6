-- What is promised of the lines of translations that are measured and written.
use Rattle.std.specs.Prelude.{ℕ, ◌≤◌, ◌≡◌, Bool, IfOk, List, [], ◌++◌, length, drop}
use Rattle.paper.specs.Bytes.{bytes}
use Rattle.paper.specs.Lists.{◌∈◌}
use Rattle.paper.specs.Form.{each}
use Rattle.paper.specs.Layout.{child, feature}
use Rattle.paper.specs.Tree.{Sequence, Feature, features_of}
use Rattle.paper.specs.Answers.{refuse, give, Translates, Lent}
use Rattle.paper.specs.Answers as paper
use Rattle.lent_room.specs.Room.{Laid, Lays, LaysMore}
use Rattle.read_steps.specs.Follow.{Starts, closing}
use Rattle.walk_steps.specs.Stands.{Stands}
use Rattle.walk_items.specs.Items.{IsFeature, FirstFeature}
use Rattle.walk_items.specs.declared.FoundFeature.{FoundFeature}
use Rattle.judge_faults.specs.Known.{Knows}
use Rattle.judge_faults.specs.declared.Known.{Known}
use Rattle.ask_translation.specs.Plans.{Keeps, PlanIs}
use Rattle.ask_translation.specs.Ones.{pass_of}
use Rattle.ask_translation.specs.declared.Plan.{Plan}
use Rattle.ask_answers.specs.Stretches.{LentAnswer}
use Rattle.ask_answers.specs.Given.{LentGivenBy}

-- ---- one line

-- x is the line of f: none, `-`, or its translation, closed by byte 10
pub data Line (q : Sequence ℕ) (f : Feature ℕ) : List ℕ → Type 0 where
  no_cds : Translates q f (refuse 35 0) → Line q f []
  unjudged : Translates q f (refuse 36 0) → Line q f (bytes "-\n")
  stop_inside : Translates q f (refuse 37 0) → Line q f (bytes "-\n")
  translation : {y : List ℕ} → Translates q f (give y) → Line q f (y ++ bytes "\n")

-- the line of f is laid at the front
pub record LineLaid (q : Sequence ℕ) (f : Feature ℕ) (on : Bool) (out : List ℕ) (r : Laid) (after : List ℕ) : Type 0 where
  pub line : List ℕ
  pub is : Line q f line
  pub laid : Lays [] 0 line out (pass_of on) r after

-- of whichever feature that is planned so
pub record LaysLine (s : List ℕ) (known : Known) (g : FoundFeature) (p : Plan) (on : Bool) (out : List ℕ) (r : Laid) (after : List ℕ) : Type 0 where
  pub kept : length after ≡ length out
  pub within : IfOk r (λ (at : ℕ). at ≤ length out)
  pub says : (q : Sequence ℕ) (f : Feature ℕ) (e : ℕ) → Knows s q known → IsFeature s f e g → PlanIs s q f p → LineLaid q f on out r after

-- the line of f is laid behind what was
pub record LineBehind (q : Sequence ℕ) (f : Feature ℕ) (was : Laid) (on : Bool) (out : List ℕ) (r : Laid) (after : List ℕ) : Type 0 where
  pub line : List ℕ
  pub is : Line q f line
  pub laid : LaysMore [] line (pass_of on) was r out after

pub record LaysBehind (s : List ℕ) (known : Known) (g : FoundFeature) (p : Plan) (was : Laid) (on : Bool) (out : List ℕ) (r : Laid) (after : List ℕ) : Type 0 where
  pub kept : length after ≡ length out
  pub within : IfOk r (λ (at : ℕ). at ≤ length out)
  pub says : (q : Sequence ℕ) (f : Feature ℕ) (e : ℕ) → Knows s q known → IsFeature s f e g → PlanIs s q f p → LineBehind q f was on out r after

-- ---- the lines of all features

-- no rule is broken on q or on any of its features l
abbrev pub KeepAll : Sequence ℕ → List (Feature ℕ) → Type 0
KeepAll q l = (f : Feature ℕ) → f ∈ l → Keeps q f

-- the lines of the features l are laid behind what was
pub record LinesBehind (q : Sequence ℕ) (l : List (Feature ℕ)) (was : Laid) (on : Bool) (out : List ℕ) (r : Laid) (after : List ℕ) : Type 0 where
  pub lines : List ℕ
  pub are : paper.Lines q l lines
  pub laid : LaysMore [] lines (pass_of on) was r out after

-- of whichever features stand from a place on
pub record LaysRest (s : List ℕ) (first : ℕ) (known : Known) (was : Laid) (on : Bool) (out : List ℕ) (r : Laid) (after : List ℕ) : Type 0 where
  pub says : (q : Sequence ℕ) → Knows s q known → (l : List (Feature ℕ)) (e : ℕ) → Stands (each (child feature) l) s first e → Starts closing (drop e s)
      → KeepAll q l → LinesBehind q l was on out r after

-- the lines of all features of q are laid at the front
pub record AllLaid (q : Sequence ℕ) (on : Bool) (out : List ℕ) (r : Laid) (after : List ℕ) : Type 0 where
  pub lines : List ℕ
  pub are : paper.Lines q (features_of q) lines
  pub laid : Lays [] 0 lines out (pass_of on) r after

pub record LaysAll (s : List ℕ) (known : Known) (g : FoundFeature) (on : Bool) (out : List ℕ) (r : Laid) (after : List ℕ) : Type 0 where
  pub says : (q : Sequence ℕ) → Knows s q known → FirstFeature s q g → KeepAll q (features_of q) → AllLaid q on out r after

-- ---- all translations of a sequence

pub record GivesAll (q : Sequence ℕ) (out : List ℕ) (r : LentAnswer) (after : List ℕ) : Type 0 where
  pub lines : List ℕ
  pub are : paper.Lines q (features_of q) lines
  pub lent : LentGivenBy (Lent out (give lines)) r after

pub record TranslatesAll (s : List ℕ) (known : Known) (g : FoundFeature) (out : List ℕ) (r : LentAnswer) (after : List ℕ) : Type 0 where
  pub says : (q : Sequence ℕ) → Knows s q known → FirstFeature s q g → KeepAll q (features_of q) → GivesAll q out r after
