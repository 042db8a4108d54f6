-- The answer of a feature that was found: its location is one, and keeps rule 25.
use Prim.Native.Nat.{ℕ, ◌≤◌}
use native.Mathlib.Omega.{arith}
use mathlib.Core.Path.{◌≡◌, refl, sym, subst}
use mathlib.Core.Bool.{false}
use mathlib.Core.List.{List}
use lib.ListN.{length}
use Rattle.std.specs.Prelude.{Option, Some, None, Ok, Err}
use Rattle.paper.specs.Bytes.{raw}
use Rattle.paper.specs.Tree.{Sequence, Feature}
use Rattle.paper.specs.Locations.{Location, Locates, spans, operator_number, breaks25}
use Rattle.paper.specs.Answers.{give, Part, part_of, triples, front, FindsFeature, FindsLocation, FeatureSays}
use Rattle.paper.specs.Answers as paper
use Rattle.walk_steps.specs.Stands.{IsPart}
use Rattle.walk_steps.specs.declared.Range.{Range}
use Rattle.judge_faults.proofs.Bytes.{text_shown}
use Rattle.location_spans.specs.Room.{AnswerSays, AnswersPart}
use Rattle.location_spans.specs.declared.room.WrittenSpans.{WrittenSpans}
use Rattle.ask_answers.specs.declared.Stretch.{Stretch}
use Rattle.ask_show.specs.Shown.{StretchOf}
use Rattle.ask_translation.proofs.Kept.{location_right}
use Rattle.ask_found.specs.Answers.{TopOf, AnswersFeature}
use Rattle.ask_found.proofs.Accepted.{feature_keeps}

found_so : {w out after : List ℕ} {k j o c : ℕ} {f : Feature ℕ} {t : Location} {a b : Part} → FindsLocation w k j (give (f, t)) → a ≡ part_of f.key
    → b ≡ part_of f.location → o ≡ operator_number t → c ≡ length (spans t) → length (triples (spans t)) ≤ length out → after ≡ front (triples (spans t)) out
    → FeatureSays w k j out 0 0 (record { key = a; location = b; operator = o; count = c }) after
found_so h a b o c l z = rw (a, b, o, c, z) (paper.found h l)

sequence_of : {w : List ℕ} {k j : ℕ} {q : Sequence ℕ} {f : Feature ℕ} → FindsFeature w k j (give (q, f)) → paper.FindsSequence w k (give q)
sequence_of (paper.feature h n) = h

module _ {w : List ℕ} {residues p : Range} {top : ℕ} {r : Option WrittenSpans} {out after : List ℕ} (size : TopOf residues top)
    (a : AnswersPart w p.from p.to top out r after) where
  -- of the location that its text is
  answered : {v : Option WrittenSpans} {k j : ℕ} {q : Sequence ℕ} {f : Feature ℕ} → r ≡ v → FindsFeature w k j (give (q, f)) → IsPart w q.residues residues
      → IsPart w f.location p → (t : Location) × Locates t f.location.read × AnswerSays t out v after
  answered {v} {k} {j} {q} {f} e finds ir il =
      let (t, h, right) = location_right (feature_keeps finds) in
      let x = (a.is (raw f.location.read) (text_shown il)).says t (record { text = f.location.read; written = refl; located = h })
      (subst (λ (n : ℕ). breaks25 n t ≡ false) (sym (size.says w k q (sequence_of finds) ir)) right) in
      (t, h, subst (λ (v : Option WrittenSpans). AnswerSays t out v after) e x)

  pub feature_short : {key : Range} → r ≡ None → AnswersFeature w residues key p out (Err (record { rule = 34; place = 0 })) after
  feature_short e =
      record {
        says =
            λ k j q f finds ir ik il.
            let (t, h, (same, short)) = answered e finds ir il in
            (omega arith, rw same (paper.short (paper.location finds h) short));
      }

  pub feature_found : {key : Range} {x y : Stretch} {v : WrittenSpans} → r ≡ Some v → StretchOf key x → StretchOf p y
      → AnswersFeature w residues key p out (Ok (record { key = x; location = y; operator = v.operator; count = v.count })) after
  feature_found e sk sl =
      record {
        says =
            λ k j q f finds ir ik il.
            let (t, h, (eo, ec, fits, ea)) = answered e finds ir il in
            let a = sk.says w f.key ik in
            let b = sl.says w f.location il in
            (found_so (paper.location finds h) a.0 b.0 eo ec fits ea, (a.1, b.1));
      }
