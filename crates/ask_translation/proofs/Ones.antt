-- One translation, measured or written into lent bytes.
use Prim.Native.Nat.{ℕ, ◌≤◌, ◌<◌}
use native.Mathlib.Omega.{arith}
use mathlib.Core.Path.{◌≡◌, refl, sym, ◌∙◌, subst, subst₂}
use mathlib.Core.Bool.{Bool, true, false, cond}
use mathlib.Core.List.{List}
use lib.ListN.{length}
use Rattle.paper.specs.Tree.{Sequence, Feature}
use Rattle.paper.specs.Translation.{Code, code1, drop_stop}
use Rattle.paper.specs.Rules.{Judged}
use Rattle.paper.specs.Answers.{Outcome, refuse, give, Translates, Lent, front}
use Rattle.std.specs.Prelude.{Result, Ok, Err}
use Rattle.std.specs.Result.{result_or}
use Rattle.lent_room.specs.Room.{Laid, InRoom, fits, Lays}
use Rattle.lent_room.specs.declared.Pass.{Pass}
use Rattle.lent_room.proofs.Laws.{sets_front}
use Rattle.read_steps.specs.Parts.{ShowsBytes}
use Rattle.walk_items.specs.declared.FoundFeature.{FoundFeature}
use Rattle.protein_codons.specs.Letters.{letters_of}
use Rattle.protein_measure.specs.Measuring.{Measured, Measures}
use Rattle.protein_measure.specs.declared.Untranslated.{Untranslated}
use Rattle.protein_measure.specs.declared.Untranslated.TheVariants as untranslated
use Rattle.protein_write.specs.Writing.{after_of, WritesTranslation}
use Rattle.walk_steps.specs.declared.Range.{Range}
use Rattle.judge_faults.specs.declared.Known.{Known}
use Rattle.ask_translation.specs.Refusals.{unwritten_of, number_of, answer_of}
use Rattle.ask_translation.specs.Plans.{PlanIs, Plans}
use Rattle.ask_translation.specs.Ones.{pass_of, LentIf, LaysTranslation, GivesIf, LaysPlanned, TranslatesOne}
use Rattle.ask_answers.specs.Stretches.{LentAnswer}
use Rattle.ask_translation.specs.declared.Plan.{Plan}
use Rattle.ask_translation.specs.declared.Plan.TheVariants.{NoCds, Given, From}
use Rattle.ask_translation.specs.declared.Plan.TheVariants as plan
use Rattle.ask_translation.specs.declared.Planned.{Planned}
use Rattle.ask_translation.specs.declared.Unwritten.{Unwritten}
use Rattle.ask_translation.specs.declared.Unwritten.TheVariants as unwritten
use Rattle.ask_translation.proofs.Planning.{found_cds}

-- ---- measured, or written too

-- what a refusal leaves, whether it was to be written or not
pub either_way : (on : Bool) (out : List ℕ) → out ≡ cond on out out
either_way true out = refl
either_way false out = refl

-- a refusal that was answered
-- none of their numbers is 0
some_number : (e : Unwritten) → ¬ (number_of e ≡ 0)
some_number unwritten.Short h = omega (arith, h)
some_number unwritten.NoCds h = omega (arith, h)
some_number unwritten.Unjudged h = omega (arith, h)
some_number unwritten.Stop h = omega (arith, h)

refused_as : {on : Bool} {out : List ℕ} {o : Outcome (List ℕ)} (e : Unwritten) → Lent out o (number_of e) 0 0 out → LentIf on out o (answer_of (Err e)) out
refused_as {on} {out} e h = record { later = out; lent = (some_number e, h); is = either_way on out }

-- said of what is there afterwards
as_was : (on : Bool) {out after : List ℕ} {o : Outcome (List ℕ)} {r : LentAnswer} → after ≡ cond on out out → LentIf on out o r out → LentIf on out o r after
as_was on {out} {o = o} {r} e h = subst (LentIf on out o r) (either_way on out ∙ sym e) h

module _ {text out given after : List ℕ} (on : Bool) {p : Pass} (e : p ≡ pass_of on) (k : length text ≤ length out) where
  -- so that it is laid
  pub text_laid : {r : Laid} → Lays given 0 text out p r after → LentIf on out (give text) (answer_of (result_or r (Err unwritten.Short))) after
  text_laid {r} l = go on (subst (λ (q : Pass). Lays given 0 text out q r after) e l)
    where
      lent : {n : ℕ} → n ≡ length text → Lent out (give text) 0 0 n (front text out)
      lent z = subst (λ (n : ℕ). Lent out (give text) 0 0 n (front text out)) (sym z) (Lent.written k)

      go : (on : Bool) {r : Laid} {after : List ℕ} → Lays given 0 text out (pass_of on) r after → LentIf on out (give text) (answer_of (result_or r (Err unwritten.Short))) after
      go true (Lays.written h) = record { later = front text out; lent = lent (omega arith); is = sets_front text out k }
      go true (Lays.short h _) = absurd (omega (arith, h, k))
      go false (Lays.measured (fits h)) = record { later = front text out; lent = lent (omega arith); is = refl }
      go false (Lays.measured (InRoom.short h)) = absurd (omega (arith, h, k))

pub text_short : {text out : List ℕ} {on : Bool} → length out < length text → LentIf on out (give text) (answer_of (Err unwritten.Short)) out
text_short h = refused_as unwritten.Short (Lent.short h)

-- ---- the letters of a coding text

module _ {gc : Code} {s loc out : List ℕ} {L start : ℕ} {on : Bool} {r : Result ℕ Untranslated} where
  pub translation_written : {after : List ℕ} → on ≡ true → WritesTranslation gc s loc L start out r after → LaysTranslation gc s loc L start on out r after
  translation_written {after} e w =
      record {
        says =
            λ t h.
            let y = w.says t h in
            (y.0, subst (λ (b : Bool). after ≡ cond b (after_of (letters_of gc s start t) out r) out) (sym e) y.1);
      }

  pub translation_measured : on ≡ false → Measures gc s loc L start (length out) r → LaysTranslation gc s loc L start on out r out
  translation_measured e m =
      record { says = λ t h. (m.says t h, subst (λ (b : Bool). out ≡ cond b (after_of (letters_of gc s start t) out r) out) (sym e) refl) }

-- ---- the translation that was planned

module _ {s out : List ℕ} {known : Known} {g : FoundFeature} {p : Plan} {on : Bool} where
  pub planned_none : p ≡ NoCds → LaysPlanned s known g p on out (Err unwritten.NoCds) out
  planned_none z =
      record { says = λ q f i k h x. record { outcome = refuse 35 0; translates = Translates.no_cds (subst (PlanIs s q f) z x); laid = refused_as unwritten.NoCds Lent.refused } }

  pub planned_unjudged : p ≡ plan.Unjudged → LaysPlanned s known g p on out (Err unwritten.Unjudged) out
  planned_unjudged z =
      record {
        says =
            λ q f i k h x.
            let y = subst (PlanIs s q f) z x in
            record { outcome = refuse 36 0; translates = Translates.unjudged y.0 y.1; laid = refused_as unwritten.Unjudged Lent.refused };
      }

  pub planned_given : {v : Range} {w after : List ℕ} {r : Result ℕ Unwritten} → p ≡ Given v → ShowsBytes s v.from v.to w
      → LentIf on out (give w) (answer_of r) after → LaysPlanned s known g p on out r after
  planned_given {w = w} {after} {r} z shown l =
      record {
        says =
            λ q f i k h x.
            let y = subst (PlanIs s q f) z x in
            let v = y.right w shown in
            record {
              outcome = give (drop_stop y.letters);
              translates = Translates.translation y.judged v.clear;
              laid = subst (λ (u : List ℕ). LentIf on out (give u) (answer_of r) after) v.same l;
            };
      }

module _ {s out : List ℕ} (known : Known) {g : FoundFeature} {p : Plan} {on : Bool} {gc : Code} {r loc after : List ℕ} {start : ℕ} {y : Result ℕ Untranslated} (code : gc ≡ code1)
    (z : p ≡ From start) (shr : ShowsBytes s known.residues.from known.residues.to r) (shl : ShowsBytes s g.location.from g.location.to loc)
    (w : LaysTranslation gc r loc known.top start on out y after) where
  -- by its letters l
  planned_by : {v : Result ℕ Unwritten} (x : Result ℕ Untranslated) → y ≡ x
      → ((q : Sequence ℕ) (f : Feature ℕ) (l : List ℕ) → Judged q f l → Measured l (length out) x → after ≡ cond on (after_of l out x) out
      → GivesIf on q f out (answer_of v) after) → LaysPlanned s known g p on out v after
  planned_by x e by =
      record {
        says =
            λ q f i k h u.
            let d = found_cds shr shl k h (subst (PlanIs s q f) z u) in
            let m = (subst₂ (λ (c : Code) (x : Result ℕ Untranslated). LaysTranslation c r loc known.top start on out x after) code e w).says d.location d.codes in
            by q f (letters_of code1 r start d.location) d.judged m.0 m.1;
      }

  pub planned_is : {n : ℕ} → y ≡ Ok n → LaysPlanned s known g p on out (Ok n) after
  planned_is {n} e =
      planned_by (Ok n) e
      (λ q f l j m a.
      let x = drop_stop l in
      record {
        outcome = give x;
        translates = Translates.translation j m.0;
        laid = record { later = front x out; lent = subst (λ (n : ℕ). Lent out (give x) 0 0 n (front x out)) (sym m.1) (Lent.written (omega (arith, m.1, m.2))); is = a };
      })

  pub planned_not : (u : Untranslated) → y ≡ Err u → LaysPlanned s known g p on out (Err (unwritten_of u)) after
  planned_not untranslated.Short e =
      planned_by (Err untranslated.Short) e
      (λ q f l j m a. record { outcome = give (drop_stop l); translates = Translates.translation j m.0; laid = as_was on a (refused_as unwritten.Short (Lent.short m.1)) })
  planned_not untranslated.Stop e =
      planned_by (Err untranslated.Stop) e
      (λ q f l j m a. record { outcome = refuse 37 0; translates = Translates.stop_inside j m; laid = as_was on a (refused_as unwritten.Stop Lent.refused) })

-- ---- planned, and then written

pub translated : {s out after : List ℕ} {known : Known} {g : FoundFeature} {x : Planned} {r : Result ℕ Unwritten} → Plans s known g x
    → LaysPlanned s known g x.plan true out r after → TranslatesOne s known g out (answer_of r) after
translated plans l = record { says = λ q f e k i keeps. l.says q f e k i (plans.says q f e k i keeps) }
