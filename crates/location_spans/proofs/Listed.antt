-- What is promised of a part of the listing, from what is promised of its bytes.
use Prim.Native.Nat.{ℕ}
use mathlib.Core.Path.{◌≡◌, sym, ◌∙◌, subst}
use mathlib.Core.Bool.{false}
use mathlib.Core.List.{List}
use Rattle.paper.specs.Locations.{Location, breaks25}
use Rattle.std.specs.Prelude.{Option}
use Rattle.read_steps.specs.Parts.{ShowsBytes}
use Rattle.read_steps.proofs.Parts.{shows_once}
use Rattle.location_judge.specs.Judging.{Spells}
use Rattle.location_spans.specs.Room.{Answers, AnswersPart}
use Rattle.location_spans.specs.declared.room.WrittenSpans.{WrittenSpans}
use Rattle.location_spans.proofs.Laying.{is_answer}

module _ {s : List ℕ} {from to L : ℕ} where
  pub part_answered : {w out after : List ℕ} {r : Option WrittenSpans} → ShowsBytes s from to w → Answers w L out r after → AnswersPart s from to L out r after
  part_answered {out = out} {after = after} {r = r} x j =
      record { is = λ v y. subst (λ (u : List ℕ). Answers u L out r after) (shows_once x y) j }

  -- two results that are allowed are equal, of a part that is a location that keeps rule 25
  pub part_answers_once : {w : List ℕ} {t : Location} → ShowsBytes s from to w → Spells w t → breaks25 L t ≡ false
      → (out : List ℕ) (r q : Option WrittenSpans) (a b : List ℕ) → AnswersPart s from to L out r a → AnswersPart s from to L out q b
      → ◌≡◌ {A = Option WrittenSpans × List ℕ} (r, a) (q, b)
  part_answers_once {w} {t} shown x right out r q a b h k =
      is_answer t out r a ((h.is w shown).says t x right) ∙ sym (is_answer t out q b ((k.is w shown).says t x right))
