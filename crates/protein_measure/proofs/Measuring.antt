-- Letters counted, run after run, and where no stop stands inside the translation's length.
use Prim.Native.Nat.{ℕ, ◌+◌, ◌-◌, ◌≤◌, ◌<◌}
use Prim.Native.Char.{code}
use native.Mathlib.Omega.{arith}
use mathlib.Core.Path.{◌≡◌, refl, sym, ap, ◌∙◌, subst}
use mathlib.Core.Bool.{true, false, true≢false}
use mathlib.Core.List.{List, []}
use lib.ListN.{length, drop, length-append}
use Rattle.paper.specs.Locations.{spans}
use Rattle.paper.specs.Translation.{Code, coding_text, letters, drop_stop, has_stop_inside}
use Rattle.protein_codons.specs.declared.Reading.{Reading}
use Rattle.protein_codons.specs.Reading.{Ready, span_letters, TextLeft, Onward, Gives, LetterIs, BeginsText}
use Rattle.protein_codons.specs.Letters.{Clear}
use Rattle.protein_codons.proofs.Readings.{span_within, run_gives}
use Rattle.protein_codons.proofs.Stops.{Front, front_one, front_take, keep_front, clear_front}
use Rattle.std.specs.Prelude.{Option, None, Some, Result, Ok, Err}
use Rattle.std.specs.Option.{ok_or}
use Rattle.protein_measure.specs.declared.Untranslated.{Untranslated}
use Rattle.protein_measure.specs.declared.Untranslated.TheVariants as untranslated
use Rattle.protein_measure.specs.Measuring.{Tally, InRoom, Counted, Measured, SizeWithin, Measures}
use Rattle.protein_measure.proofs.Finished.{Finished}

-- ---- k letters more

module _ {room k : ℕ} where
  pub counted_none : Counted room None k None
  counted_none = record { within = tt; more = λ m t. omega arith }

  module _ {n : ℕ} (w : n ≤ room) where
    pub counted_in : k ≤ room - n → Counted room (Some n) k (Some (n + k))
    counted_in h = record { within = omega arith; more = λ m t. (omega (arith, t.0), omega (arith, t.0)) }

    pub counted_over : room - n < k → Counted room (Some n) k None
    counted_over h = record { within = tt; more = λ m t. omega (arith, t.0) }

-- ---- the loop

-- m letters were counted; with those that x leaves they are l
record Tallied (gc : Code) (s loc : List ℕ) (L : ℕ) (x : Reading) (l : List ℕ) (room : ℕ) (a : Option ℕ) : Type 0 where
  m : ℕ
  rest : List ℕ
  left : TextLeft s loc L x rest
  tally : Tally room m a
  clear : has_stop_inside l ≡ has_stop_inside (letters gc rest)
  long : length (drop_stop l) ≡ m + length (drop_stop (letters gc rest))

-- its invariant
pub record Measuring (gc : Code) (s loc : List ℕ) (L : ℕ) (from : Reading) (room : ℕ) (x : Reading) (a : Option ℕ) : Type 0 where
  pub ready : Ready (length s) x
  pub within : InRoom room a
  gives : (text : List ℕ) → TextLeft s loc L from text → Tallied gc s loc L x (letters gc text) room a

-- the answer, for whichever text is left at the start
pub record Tells (gc : Code) (s loc : List ℕ) (L : ℕ) (from : Reading) (room : ℕ) (r : Result ℕ Untranslated) : Type 0 where
  within : SizeWithin room r
  says : (text : List ℕ) → TextLeft s loc L from text → Measured (letters gc text) room r

module _ {gc : Code} {s loc : List ℕ} {L : ℕ} {from : Reading} {room : ℕ} where
  pub measuring_start : Ready (length s) from → Measuring gc s loc L from room from (Some 0)
  measuring_start r =
      record {
        ready = r;
        within = omega arith;
        gives = λ text h. record { m = 0; rest = text; left = h; tally = (refl, omega arith); clear = refl; long = omega arith };
      }

  module _ {x : Reading} {a : Option ℕ} (f : Measuring gc s loc L from room x a) where
    pub measuring_end : Finished gc s loc L x → Tells gc s loc L from room (ok_or a untranslated.Short)
    measuring_end g =
        record {
          within = within a f.within;
          says = λ text h.
              let c = f.gives text h in
              said (letters gc text) c.rest c.m a c.clear c.long c.tally (g.is c.rest c.left);
        }
      where
        within : (a : Option ℕ) → InRoom room a → SizeWithin room (ok_or a untranslated.Short)
        within None w = tt
        within (Some n) w = w

        said : (l rest : List ℕ) (m : ℕ) (a : Option ℕ) → has_stop_inside l ≡ has_stop_inside (letters gc rest)
            → length (drop_stop l) ≡ m + length (drop_stop (letters gc rest)) → Tally room m a
            → (has_stop_inside (letters gc rest) ≡ false) × (drop_stop (letters gc rest) ≡ []) → Measured l room (ok_or a untranslated.Short)
        said l rest m None p q t z = let e = ap length z.1 in (p ∙ z.0, omega arith)
        said l rest m (Some n) p q t z = let e = ap length z.1 in (p ∙ z.0, omega (arith, t.0), omega (arith, t.0))

    pub measuring_stop : ((rest : List ℕ) → TextLeft s loc L x rest → has_stop_inside (letters gc rest) ≡ true) → Tells gc s loc L from room (Err untranslated.Stop)
    measuring_stop g = record { within = tt; says = λ text h. let v = f.gives text h in v.clear ∙ g v.rest v.left }

    -- letters passed: a run of them, or one
    measuring_on : {d : List ℕ} {k : ℕ} {y : Reading} {b : Option ℕ} → Gives gc s loc L x d y → Front d k → Counted room a k b
        → Measuring gc s loc L from room y b
    measuring_on {d} {k} {y} {b} g q w =
        record {
          ready = g.ready;
          within = w.within;
          gives = λ text h.
              let v = f.gives text h in
              let u = g.gives v.rest v.left in
              let l = letters gc u.others in
              let e = ap (λ (z : List ℕ). length (drop_stop z)) u.is ∙ ap length (keep_front q l) ∙ length-append d (drop_stop l) in
              record {
                m = v.m + k;
                rest = u.others;
                left = u.left;
                tally = w.more v.m v.tally;
                clear = v.clear ∙ ap has_stop_inside u.is ∙ clear_front q l;
                long = omega (arith, v.long, e, q.size);
              };
        }

    pub measuring_run : {k : ℕ} {y : Reading} {b : Option ℕ} → Onward x k y → Clear x.span.low x.span.high (span_letters gc s x.span.low x.span.high x.span.turned) k
        → Counted room a k b → Measuring gc s loc L from room y b
    measuring_run {k} o w =
        measuring_on (run_gives s f.ready o gc)
        (front_take (span_within gc s x.span.low x.span.high x.span.turned k w.within f.ready.inside) w.clear)

    pub measuring_one : {c : ℕ} {y : Reading} {b : Option ℕ} → LetterIs gc s loc L x c y → (c ≡ code "*" → ⊥) → Counted room a 1 b
        → Measuring gc s loc L from room y b
    measuring_one g n = measuring_on g.one (front_one n)

-- ---- the answer

module _ {gc : Code} {s loc : List ℕ} {L start room : ℕ} where
  pub measures : {from : Reading} {r : Result ℕ Untranslated} → BeginsText s loc L start from → Tells gc s loc L from room r → Measures gc s loc L start room r
  measures b g = record { within = g.within; says = λ t h. g.says (drop (start - 1) (coding_text s (spans t))) (b.leaves t h) }

  -- nothing is promised where the residues are not L
  pub measures_none : length s < L → Measures gc s loc L start room (Err untranslated.Stop)
  measures_none k = record { within = tt; says = λ t h. absurd (let e = h.sized in omega arith) }

  pub measures_are : {r q : Result ℕ Untranslated} → Measures gc s loc L start room r → r ≡ q → Measures gc s loc L start room q
  measures_are h e = subst (Measures gc s loc L start room) e h

-- ---- two answers that are allowed are equal

pub measured_once : (l : List ℕ) (room : ℕ) (r q : Result ℕ Untranslated) → Measured l room r → Measured l room q → r ≡ q
measured_once l room (Ok n) (Ok m) h k = ap Ok (h.1 ∙ sym k.1)
measured_once l room (Ok n) (Err untranslated.Short) h k = absurd (omega (arith, h.1, h.2, k.1))
measured_once l room (Ok n) (Err untranslated.Stop) h k = absurd (true≢false (sym k ∙ h.0))
measured_once l room (Err untranslated.Short) (Ok n) h k = absurd (omega (arith, k.1, k.2, h.1))
measured_once l room (Err untranslated.Short) (Err untranslated.Short) h k = refl
measured_once l room (Err untranslated.Short) (Err untranslated.Stop) h k = absurd (true≢false (sym k ∙ h.0))
measured_once l room (Err untranslated.Stop) (Ok n) h k = absurd (true≢false (sym h ∙ k.0))
measured_once l room (Err untranslated.Stop) (Err untranslated.Short) h k = absurd (true≢false (sym h ∙ k.0))
measured_once l room (Err untranslated.Stop) (Err untranslated.Stop) h k = refl
