-- What is promised of the judgement of sequences.
use Rattle.std.specs.Prelude.{ℕ, ◌+◌, ◌*◌, ◌≤◌, ◌<◌, ◌≡◌, Bool, true, false, List, map, length, drop, None}
use Rattle.paper.specs.Bytes.{is_blank}
use Rattle.paper.specs.Lists.{Count, gather}
use Rattle.paper.specs.Form.{each}
use Rattle.paper.specs.Layout.{child, sequence}
use Rattle.paper.specs.Tree.{Sequence, Feature, features_of}
use Rattle.paper.specs.Rules.{Skipped, InSequence}
use Rattle.paper.specs.Answers.{limit, JudgedCds, UnjudgedCds}
use Rattle.read_steps.specs.Follow.{Not, Starts, closing}
use Rattle.walk_steps.specs.Stands.{Stands}
use Rattle.value_words.specs.Reading.{Tells}
use Rattle.judge_faults.specs.Sets.{Earlier, Firsts, InSome}
use Rattle.judge_features.specs.Featured.{CountedIn, Below}
use Rattle.judge_sequences.specs.declared.One.{One}
use Rattle.judge_sequences.specs.declared.Total.{Total}

-- ---- sums

abbrev pub nothing_yet : Total
nothing_yet = record { fault = None; figures = record { total = 0; skipped = 0; features = 0; judged = 0; unjudged = 0 } }

pub record Plus (a b r : ℕ) : Type 0 where
  pub is : a + b < 18446744073709551616 → r ≡ a + b

abbrev pub one_if : Bool → ℕ
one_if true = 1
one_if false = 0

pub record Adds (a : Total) (x : One) (r : Total) : Type 0 where
  pub fault : Earlier a.fault x.fault r.fault
  pub total : Plus a.figures.total 1 r.figures.total
  pub skipped : Plus a.figures.skipped (one_if x.skipped) r.figures.skipped
  pub features : Plus a.figures.features x.counts.features r.figures.features
  pub judged : Plus a.figures.judged x.counts.judged r.figures.judged
  pub unjudged : Plus a.figures.unjudged x.counts.unjudged r.figures.unjudged

-- ---- one sequence

-- the counts are right where no rule is broken: a skipped sequence may have features that aren't judged, which breaks rule 29
pub record IsOne (k : ℕ) (q : Sequence ℕ) (e : ℕ) (r : One) : Type 0 where
  pub fault : Firsts (InSequence k q) r.fault
  pub skipped : Tells r.skipped (Skipped q)
  pub counted : ((n p : ℕ) → ¬ InSequence k q n p) → CountedIn q (features_of q) r.counts
  pub next : r.next ≡ e

pub record JudgesSequence (s : List ℕ) (at k : ℕ) (r : One) : Type 0 where
  pub says : (q : Sequence ℕ) (e : ℕ) → length s ≤ limit → Stands (child sequence q) s at e → Not is_blank (drop e s) → IsOne k q e r
  pub below : Below r.counts (length s)

-- ---- all

-- every feature of some sequences, with its sequence
abbrev pub every : List (Sequence ℕ) → List (Sequence ℕ × Feature ℕ)
every = gather (λ (s : Sequence ℕ). map {A = Feature ℕ} {B = Sequence ℕ × Feature ℕ} (λ f. (s, f)) (features_of s))

pub record CountedAll (l : List (Sequence ℕ)) (features judged unjudged : ℕ) : Type 0 where
  pub features_are : features ≡ length (every l)
  pub judged_are : Count JudgedCds (every l) judged
  pub unjudged_are : Count UnjudgedCds (every l) unjudged

pub record Totalled (l : List (Sequence ℕ)) (r : Total) : Type 0 where
  pub fault : Firsts (InSome InSequence l) r.fault
  pub total : r.figures.total ≡ length l
  pub skipped : Count Skipped l r.figures.skipped
  pub skipped_below : r.figures.skipped ≤ r.figures.total
  pub counted : ((n p : ℕ) → ¬ InSome InSequence l n p) → CountedAll l r.figures.features r.figures.judged r.figures.unjudged
  pub features_below : r.figures.features ≤ r.figures.total * limit
  pub judged_below : r.figures.judged ≤ r.figures.total * limit
  pub unjudged_below : r.figures.unjudged ≤ r.figures.total * limit

pub record JudgesSequences (s : List ℕ) (first : ℕ) (r : Total) : Type 0 where
  pub says : length s ≤ limit → (l : List (Sequence ℕ)) (e : ℕ) → Stands (each (child sequence) l) s first e → Starts closing (drop e s) → Totalled l r
