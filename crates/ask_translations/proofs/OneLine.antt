-- The line of a feature, laid at the front by a pass that measures or writes; and behind what was laid.
use Prim.Native.Nat.{ℕ, ◌+◌, ◌≤◌, ◌<◌}
use native.Mathlib.Omega.{arith}
use mathlib.Core.Path.{◌≡◌, refl, sym, ◌∙◌, subst, subst₂}
use mathlib.Core.Bool.{Bool, true, false, cond}
use mathlib.Core.List.{List, [], ◌++◌}
use lib.ListN.{length, length-append}
use Rattle.std.specs.Prelude.{Result, Ok, Err, IfOk}
use Rattle.paper.specs.Bytes.{bytes}
use Rattle.paper.specs.Tree.{Sequence, Feature}
use Rattle.paper.specs.Translation.{drop_stop, has_stop_inside}
use Rattle.paper.specs.Rules.{Judged}
use Rattle.paper.specs.Answers.{Outcome, Translates, Lent, front}
use Rattle.lent_room.specs.Room.{Laid, stopped, InRoom, fits, Lays}
use Rattle.lent_room.specs.declared.Stopped.{Stopped}
use Rattle.lent_room.specs.declared.Pass.{Pass}
use Rattle.lent_room.proofs.Laws.{sets_front, puts_none, puts_lent, lent, back, length_lent, length_back}
use Rattle.lent_room.proofs.Passes.{lays_kept, lays_none, lays_next, more_on, more_off}
use Rattle.read_steps.proofs.Parts.{shows_any}
use Rattle.walk_items.specs.Items.{IsFeature}
use Rattle.walk_items.specs.declared.FoundFeature.{FoundFeature}
use Rattle.judge_faults.specs.Known.{Knows}
use Rattle.judge_faults.specs.declared.Known.{Known}
use Rattle.ask_translation.specs.Refusals.{number_of, answer_of}
use Rattle.ask_translation.specs.Plans.{PlanIs}
use Rattle.ask_translation.specs.Ones.{pass_of, GivesIf, LaysPlanned}
use Rattle.ask_translation.specs.declared.Plan.{Plan}
use Rattle.ask_translation.specs.declared.Plan.TheVariants.{NoCds, Given, From}
use Rattle.ask_translation.specs.declared.Plan.TheVariants as plan
use Rattle.ask_translation.specs.declared.Unwritten.{Unwritten}
use Rattle.ask_translation.specs.declared.Unwritten.TheVariants as unwritten
use Rattle.ask_translation.proofs.Ones.{either_way}
use Rattle.ask_translations.specs.Lines.{Line, LineLaid, LaysLine, LaysBehind}

-- ---- passes

-- what was given to compare with is of no account
pass_as : (on : Bool) {given x room after : List ℕ} {at : ℕ} {r : Laid} {p : Pass} → p ≡ pass_of on → Lays given at x room p r after
    → Lays [] at x room (pass_of on) r after
pass_as on {given} {x} {room} {after} {at} {r} e l = go on (subst (λ (q : Pass). Lays given at x room q r after) e l)
  where
    go : (on : Bool) {r : Laid} {after : List ℕ} → Lays given at x room (pass_of on) r after → Lays [] at x room (pass_of on) r after
    go true (Lays.written h) = Lays.written h
    go true (Lays.short h k) = Lays.short h k
    go false (Lays.measured h) = Lays.measured h

-- a pass over something ends in the room
pass_within : (on : Bool) {x room after : List ℕ} {at : ℕ} {r : Laid} → Lays [] at x room (pass_of on) r after → 1 ≤ length x
    → IfOk r (λ (end : ℕ). end ≤ length room)
pass_within true (Lays.written h) k = omega (arith, h, k)
pass_within true (Lays.short h l) k = tt
pass_within false (Lays.measured (fits h)) k = omega (arith, h, k)
pass_within false (Lays.measured (InRoom.short h)) k = tt

pass_short : (on : Bool) {x room : List ℕ} → length room < length x → Lays [] 0 x room (pass_of on) (stopped (length room)) room
pass_short true h = Lays.short (omega (arith, h)) refl
pass_short false h = Lays.measured (InRoom.short (omega (arith, h)))

-- at the front of what is lent on from `at` is behind what was there
module _ (out : List ℕ) (at : ℕ) (h : at ≤ length out) where
  -- what comes back unchanged leaves all as it was
  as_it_was : back out at (lent out at) ≡ out
  as_it_was = (puts_lent out at h puts_none).is

  lent_ok : (on : Bool) {y ys : List ℕ} {n : ℕ} → Lays [] 0 y (lent out at) (pass_of on) (Ok n) ys → Lays [] at y out (pass_of on) (Ok (at + n)) (back out at ys)
  lent_ok true {y} (Lays.written k) =
      let p = puts_lent out at h {r = 0 + length y} {y = y} (record { ends = refl; is = refl }) in
      subst₂ (λ (n : ℕ) (z : List ℕ). Lays [] at y out (pass_of true) (Ok n) z) (sym p.ends) (sym p.is) (Lays.written (omega (arith, k, length_lent out at h)))
  lent_ok false {y} (Lays.measured (fits k)) =
      subst₂ (λ (n : ℕ) (z : List ℕ). Lays [] at y out (pass_of false) (Ok n) z) (omega arith) (sym as_it_was)
      (Lays.measured (fits (omega (arith, k, length_lent out at h))))

  -- a pass that stopped did so at the room's end
  lent_stopped : (on : Bool) {y ys : List ℕ} {e : Stopped} → Lays [] 0 y (lent out at) (pass_of on) (Err e) ys
      → Lays [] at y out (pass_of on) (stopped (length (back out at ys))) (back out at ys)
  lent_stopped true {y} {ys} (Lays.short k l) =
      let z = length_back out at h ys l in
      subst (λ (n : ℕ). Lays [] at y out (pass_of true) (stopped n) (back out at ys)) (sym z) (Lays.short (omega (arith, k, length_lent out at h)) z)
  lent_stopped false {y} (Lays.measured (InRoom.short k)) =
      subst (λ (z : List ℕ). Lays [] at y out (pass_of false) (stopped (length z)) z) (sym as_it_was) (Lays.measured (InRoom.short (omega (arith, k, length_lent out at h))))

-- ---- at the front

-- what was answered of the text of a line, and what then stands in the lent bytes
data Told (q : Sequence ℕ) (f : Feature ℕ) (on : Bool) (out : List ℕ) : (number size : ℕ) → List ℕ → Type 0 where
  none : Line q f [] → Told q f on out 35 0 out
  dash : {n : ℕ} → 35 < n → Line q f (bytes "-\n") → Told q f on out n 0 out
  short : (y : List ℕ) → Line q f (y ++ bytes "\n") → length out < length y → Told q f on out 34 0 out
  text : (y : List ℕ) → Line q f (y ++ bytes "\n") → length y ≤ length out → Told q f on out 0 (length y) (cond on (front y out) out)

told : {q : Sequence ℕ} {f : Feature ℕ} {o : Outcome (List ℕ)} {on : Bool} {out later mid : List ℕ} {n p m : ℕ} → Translates q f o → Lent out o n p m later
    → mid ≡ cond on later out → Told q f on out n m mid
told {q} {f} {o} {on} {out} {later} {n = n} {m = m} t l is = subst (Told q f on out n m) (sym is) (go t l)
  where
    same : {n m : ℕ} → Told q f on out n m out → Told q f on out n m (cond on out out)
    same {n} {m} h = subst (Told q f on out n m) (either_way on out) h

    go : {o : Outcome (List ℕ)} {n p m : ℕ} {later : List ℕ} → Translates q f o → Lent out o n p m later → Told q f on out n m (cond on later out)
    go (Translates.no_cds c) Lent.refused = same (Told.none (Line.no_cds (Translates.no_cds c)))
    go (Translates.unjudged c u) Lent.refused = same (Told.dash (omega arith) (Line.unjudged (Translates.unjudged c u)))
    go (Translates.stop_inside j e) Lent.refused = same (Told.dash (omega arith) (Line.stop_inside (Translates.stop_inside j e)))
    go (Translates.translation j e) (Lent.short {x = y} h) = same (Told.short y (Line.translation (Translates.translation j e)) h)
    go (Translates.translation j e) (Lent.written {x = y} h) = Told.text y (Line.translation (Translates.translation j e)) h

module _ {q : Sequence ℕ} {f : Feature ℕ} (on : Bool) {out : List ℕ} where
  laid_none : {n m : ℕ} {mid : List ℕ} → Told q f on out n m mid → n ≡ 35 → LineLaid q f on out (Ok 0) mid
  laid_none (Told.none l) e = record { line = []; is = l; laid = lays_none (pass_of on) }
  laid_none (Told.dash h l) e = absurd (omega (arith, e, h))
  laid_none (Told.short y l h) e = absurd (omega (arith, e))
  laid_none (Told.text y l h) e = absurd (omega (arith, e))

  laid_short : {n m : ℕ} {mid : List ℕ} → Told q f on out n m mid → n ≡ 34 → LineLaid q f on out (stopped (length out)) mid
  laid_short (Told.none l) e = absurd (omega (arith, e))
  laid_short (Told.dash h l) e = absurd (omega (arith, e, h))
  laid_short (Told.short y l h) e = record { line = y ++ bytes "\n"; is = l; laid = pass_short on (omega (arith, h, length-append y (bytes "\n"))) }
  laid_short (Told.text y l h) e = absurd (omega (arith, e))

  laid_dash : {n m : ℕ} {mid after : List ℕ} {r : Laid} → Told q f on out n m mid → 35 < n → Lays [] 0 (bytes "-\n") mid (pass_of on) r after
      → LineLaid q f on out r after
  laid_dash (Told.none l) a d = absurd (omega (arith, a))
  laid_dash (Told.dash h l) a d = record { line = bytes "-\n"; is = l; laid = d }
  laid_dash (Told.short y l h) a d = absurd (omega (arith, a))
  laid_dash (Told.text y l h) a d = absurd (omega (arith, a))

  laid_text : {n m : ℕ} {mid after : List ℕ} {r : Laid} → Told q f on out n m mid → n ≡ 0 → Lays [] m (bytes "\n") mid (pass_of on) r after
      → LineLaid q f on out r after
  laid_text (Told.none l) e d = absurd (omega (arith, e))
  laid_text (Told.dash h l) e d = absurd (omega (arith, e, h))
  laid_text (Told.short y l h) e d = absurd (omega (arith, e))
  laid_text (Told.text y l h) e d = record { line = y ++ bytes "\n"; is = l; laid = lays_next (first on) d }
    where
      first : (on : Bool) → Lays [] 0 y out (pass_of on) (Ok (length y)) (cond on (front y out) out)
      first true = subst₂ (λ (n : ℕ) (z : List ℕ). Lays [] 0 y out (pass_of true) (Ok n) z) (omega arith) (sets_front y out h) (Lays.written (omega (arith, h)))
      first false = subst (λ (n : ℕ). Lays [] 0 y out (pass_of false) (Ok n) out) (omega arith) (Lays.measured (fits (omega (arith, h))))

module _ {s out mid : List ℕ} {known : Known} {g : FoundFeature} {p : Plan} (on : Bool) {r : Result ℕ Unwritten} (t : LaysPlanned s known g p on out r mid)
    (kept : length mid ≡ length out) where
  gives : {y : Result ℕ Unwritten} → r ≡ y → {q : Sequence ℕ} {f : Feature ℕ} {d : ℕ} → Knows s q known → IsFeature s f d g → PlanIs s q f p
      → GivesIf on q f out (answer_of y) mid
  gives z {q} {f} {d} k i x = (subst (λ (y : Result ℕ Unwritten). LaysPlanned s known g p on out y mid) z t).says q f d k i x

  told_not : {e : Unwritten} → r ≡ Err e → {q : Sequence ℕ} {f : Feature ℕ} {d : ℕ} → Knows s q known → IsFeature s f d g → PlanIs s q f p
      → Told q f on out (number_of e) 0 mid
  told_not z k i x = let y = gives z k i x in told y.translates y.laid.lent.1 y.laid.is

  pub line_none : r ≡ Err unwritten.NoCds → LaysLine s known g p on out (Ok 0) mid
  line_none z = record { kept = kept; within = omega arith; says = λ q f d k i x. laid_none on (told_not z k i x) refl }

  pub line_short : r ≡ Err unwritten.Short → LaysLine s known g p on out (stopped (length mid)) mid
  line_short z =
      subst (λ (n : ℕ). LaysLine s known g p on out (stopped n) mid) (sym kept)
      record { kept = kept; within = tt; says = λ q f d k i x. laid_short on (told_not z k i x) refl }

  module _ {given after : List ℕ} {w : Pass} {v : Laid} (pass : w ≡ pass_of on) where
    pub line_dash : {e : Unwritten} → 35 < number_of e → r ≡ Err e → Lays given 0 (bytes "-\n") mid w v after → LaysLine s known g p on out v after
    line_dash a z d =
        let l = pass_as on pass d in
        record {
          kept = lays_kept l ∙ kept;
          within = subst (λ (n : ℕ). IfOk v (λ (end : ℕ). end ≤ n)) kept (pass_within on l (omega arith));
          says = λ q f d k i x. laid_dash on (told_not z k i x) a l;
        }

    pub line_text : {n : ℕ} → r ≡ Ok n → Lays given n (bytes "\n") mid w v after → LaysLine s known g p on out v after
    line_text z d =
        let l = pass_as on pass d in
        record {
          kept = lays_kept l ∙ kept;
          within = subst (λ (n : ℕ). IfOk v (λ (end : ℕ). end ≤ n)) kept (pass_within on l (omega arith));
          says = λ q f d k i x. let y = gives z k i x in laid_text on (told y.translates y.laid.lent y.laid.is) refl l;
        }

-- ---- behind what was laid

-- whichever plan, there is a line
line_there : (s : List ℕ) {q : Sequence ℕ} {f : Feature ℕ} (p : Plan) → PlanIs s q f p → (x : List ℕ) × Line q f x
line_there s NoCds h = ([], Line.no_cds (Translates.no_cds h))
line_there s plan.Unjudged h = (bytes "-\n", Line.unjudged (Translates.unjudged h.0 h.1))
line_there s (Given v) h =
    let w = shows_any s v.from v.to in
    (drop_stop h.letters ++ bytes "\n", Line.translation (Translates.translation h.judged (h.right w.0 w.1).clear))
line_there s {q} {f} (From n) h = by h.judged
  where
    by : {x : List ℕ} → Judged q f x → (y : List ℕ) × Line q f y
    by {x} j = go (has_stop_inside x) refl
      where
        go : (b : Bool) → has_stop_inside x ≡ b → (y : List ℕ) × Line q f y
        go true e = (bytes "-\n", Line.stop_inside (Translates.stop_inside j e))
        go false e = (drop_stop x ++ bytes "\n", Line.translation (Translates.translation j e))

module _ {s out : List ℕ} {known : Known} {g : FoundFeature} (p : Plan) {on : Bool} where
  pub behind_off : {e : Stopped} → LaysBehind s known g p (Err e) on out (Err e) out
  behind_off = record { kept = refl; within = tt; says = λ q f e k i x. let y = line_there s p x in record { line = y.0; is = y.1; laid = more_off } }

  module _ {at : ℕ} {ys : List ℕ} {r : Laid} (h : at ≤ length out) (l : LaysLine s known g p on (lent out at) r ys) where
    pub behind_ok : {n : ℕ} → r ≡ Ok n → LaysBehind s known g p (Ok at) on out (Ok (at + n)) (back out at ys)
    behind_ok e =
        let m = subst (λ (r : Laid). LaysLine s known g p on (lent out at) r ys) e l in
        record {
          kept = length_back out at h ys m.kept;
          within = omega (arith, m.within, length_lent out at h, h);
          says = λ q f d k i x. let y = m.says q f d k i x in record { line = y.line; is = y.is; laid = more_on (lent_ok out at h on y.laid) };
        }

    pub behind_stopped : {e : Stopped} → r ≡ Err e → LaysBehind s known g p (Ok at) on out (stopped (length (back out at ys))) (back out at ys)
    behind_stopped e =
        let m = subst (λ (r : Laid). LaysLine s known g p on (lent out at) r ys) e l in
        record {
          kept = length_back out at h ys m.kept;
          within = tt;
          says = λ q f d k i x. let y = m.says q f d k i x in record { line = y.line; is = y.is; laid = more_on (lent_stopped out at h on y.laid) };
        }
