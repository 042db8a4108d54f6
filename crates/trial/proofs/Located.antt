-- The verdict on a location that is a whole part, and its spans in numbers.
use Prim.Native.Nat.{ℕ}
use mathlib.Core.Path.{◌≡◌, sym, ◌∙◌, subst}
use mathlib.Core.Bool.{true, false}
use mathlib.Core.List.{List}
use lib.ListN.{length}
use Rattle.std.specs.Prelude.{Option, None, Some}
use Rattle.paper.specs.Locations.{breaks25}
use Rattle.read_steps.proofs.Parts.{shows_whole}
use Rattle.location_judge.specs.Judging.{Judges, JudgesPart}
use Rattle.location_judge.specs.declared.judging.Facts.{Facts}
use Rattle.location_judge.specs.Readings.{operator_code}
use Rattle.location_spans.specs.Room.{AnswerSays, AnswersPart}
use Rattle.location_spans.specs.declared.room.WrittenSpans.{WrittenSpans}
use Rattle.trial.specs.Numbers.{SpansNumbers}

pub judged : {s : List ℕ} {L : ℕ} {r q : Option Facts} → JudgesPart s 0 (length s) L r → r ≡ q → Judges s L q
judged {s} {L} h e = subst (Judges s L) e (h.is s (shows_whole s))

module _ {s : List ℕ} {L : ℕ} {f : Facts} (j : Judges s L (Some f)) where
  pub spans_wrong : {out : List ℕ} → f.wrong ≡ true → SpansNumbers s L out 25 0 0 out
  spans_wrong q = SpansNumbers.wrong j.0 j.1 (sym j.2.wrong ∙ q)

  module _ (q : f.wrong ≡ false) where
    right : breaks25 L j.0 ≡ false
    right = sym j.2.wrong ∙ q

    module _ {out after : List ℕ} {r : Option WrittenSpans} (h : AnswersPart s 0 (length s) L out r after) where
      says : {p : Option WrittenSpans} → r ≡ p → AnswerSays j.0 out p after
      says e = subst (λ (p : Option WrittenSpans). AnswerSays j.0 out p after) e ((h.is s (shows_whole s)).says j.0 j.1 right)

      pub spans_short : r ≡ None → SpansNumbers s L out 34 0 0 after
      spans_short e = let k = says e in rw k.0 (SpansNumbers.short j.0 j.1 right k.1)

      pub spans_are : {x : WrittenSpans} {o : ℕ} → r ≡ Some x → o ≡ operator_code x.operator → SpansNumbers s L out 0 o x.count after
      spans_are e z = let k = says e in rw (z ∙ k.0, k.1, k.3) (SpansNumbers.are j.0 j.1 right k.2)
