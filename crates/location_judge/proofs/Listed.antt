-- What is promised of a part of the listing, from what is promised of its bytes.
use Prim.Native.Nat.{ℕ}
use mathlib.Core.Path.{◌≡◌, subst}
use mathlib.Core.Bool.{Bool}
use mathlib.Core.List.{List}
use Rattle.std.specs.Prelude.{Option}
use Rattle.read_steps.specs.Parts.{ShowsBytes}
use Rattle.read_steps.proofs.Parts.{shows_any, shows_once}
use Rattle.location_judge.specs.Judging.{Judges, JudgesPart, LeavesRegion, LeavesPart}
use Rattle.location_judge.specs.declared.judging.Facts.{Facts}
use Rattle.location_judge.proofs.Verdicts.{judges_once}

module _ {s : List ℕ} {from to L : ℕ} where
  pub part_judged : {w : List ℕ} {r : Option Facts} → ShowsBytes s from to w → Judges w L r → JudgesPart s from to L r
  part_judged {r = r} x j = record { is = λ v y. subst (λ (u : List ℕ). Judges u L r) (shows_once x y) j }

  -- two results that are allowed are equal
  pub part_judges_once : (r q : Option Facts) → JudgesPart s from to L r → JudgesPart s from to L q → r ≡ q
  part_judges_once r q h k = let x = shows_any s from to in judges_once x.0 L r q (h.is x.0 x.1) (k.is x.0 x.1)

pub part_leaves : {s : List ℕ} {from to : ℕ} {w : List ℕ} {r : Bool} → ShowsBytes s from to w → LeavesRegion w r → LeavesPart s from to r
part_leaves {r = r} x j = record { is = λ v y. subst (λ (u : List ℕ). LeavesRegion u r) (shows_once x y) j }
