-- The lines of all features, laid one behind another; measured first, and then written.
use Prim.Native.Nat.{ℕ, suc, ◌≤◌}
use native.Mathlib.Omega.{arith}
use mathlib.Core.Path.{◌≡◌, refl, sym, ap, ◌∙◌, subst, subst₂}
use mathlib.Core.Bool.{Bool, true, false, true≢false}
use mathlib.Core.List.{List, [], ◌++◌}
use Rattle.std.specs.Prelude.{Ok, Err, IfOk, is_ok}
use Rattle.std.specs.Result.{result_or}
use lib.ListN.{length}
use Rattle.paper.specs.Tree.{Sequence, Feature, features_of}
use Rattle.paper.specs.Answers.{give, Lent, Lines}
use Rattle.paper.proofs.Once.{lines_once}
use Rattle.lent_room.specs.Room.{Laid, InRoom, Lays}
use Rattle.lent_room.specs.declared.Stopped.{Stopped}
use Rattle.lent_room.proofs.Laws.{sets_front}
use Rattle.lent_room.proofs.Passes.{lays_written, more_none, more_then, fits_inside}
use Rattle.walk_steps.specs.Stands.{TellsChild}
use Rattle.walk_steps.proofs.Places.{from}
use Rattle.walk_items.specs.Items.{MeetsFeature, PassesFeature, FirstFeature}
use Rattle.walk_items.specs.declared.FoundFeature.{FoundFeature}
use Rattle.judge_faults.specs.Known.{Knows}
use Rattle.judge_faults.specs.declared.Known.{Known}
use Rattle.judge_qualifiers.proofs.Lists.{in_last}
use Rattle.ask_translation.specs.Plans.{Plans}
use Rattle.ask_translation.specs.Ones.{pass_of}
use Rattle.ask_translation.specs.declared.Planned.{Planned}
use Rattle.ask_answers.specs.Stretches.{LentAnswer}
use Rattle.ask_translation.specs.Refusals.{refused_of}
use Rattle.ask_translation.specs.declared.Unwritten.{Unwritten}
use Rattle.ask_translation.specs.declared.Unwritten.TheVariants.{Short}
use Rattle.ask_translations.specs.Lines.{LaysLine, LaysBehind, KeepAll, LinesBehind, LaysRest, LaysAll, TranslatesAll}
use Rattle.ask_translations.proofs.Laid.{lines_more, lines_first}
use Rattle.ask_translations.proofs.Walks.{SeenFeatures, none_seen, one_more, stuck, all_seen, keep_front}

-- ---- the loop

-- the lines of the features passed are laid
pub record LayingLines (s : List ℕ) (first at : ℕ) (known : Known) (was : Laid) (on : Bool) (before : List ℕ) (r : Laid) (out : List ℕ) : Type 0 where
  pub kept : length out ≡ length before
  pub within : IfOk r (λ (end : ℕ). end ≤ length out)
  pub seen : (q : Sequence ℕ) → Knows s q known → SeenFeatures s first at (λ (l : List (Feature ℕ)). KeepAll q l → LinesBehind q l was on before r out)

pub laying_none : {s : List ℕ} {first : ℕ} {known : Known} {was : Laid} {on : Bool} (out : List ℕ) → IfOk was (λ (end : ℕ). end ≤ length out) → LayingLines s first first known was on out was out
laying_none {first = first} {was = was} {on} out h =
    record {
      kept = refl;
      within = h;
      seen = λ q k. none_seen first (λ (l : List (Feature ℕ)). KeepAll q l → LinesBehind q l was on out was out) (λ keep. record { lines = []; are = Lines.end; laid = more_none });
    }

module _ {s before out : List ℕ} {first at : ℕ} {known : Known} {was r : Laid} {on t : Bool} (here : TellsChild s at t) (w : LayingLines s first at known was on before r out) where
  module _ {n : ℕ} {g : FoundFeature} (h : t ≡ true) (f : MeetsFeature s at g) (p : PassesFeature s g n) where
    pub laying_more : {x : Planned} {v : Laid} {after : List ℕ} → Plans s known g x → LaysBehind s known g x.plan r on out v after → LayingLines s first n known was on before v after
    laying_more {v = v} {after} plans b =
        record {
          kept = b.kept ∙ w.kept;
          within = subst (λ (n : ℕ). IfOk v (λ (end : ℕ). end ≤ n)) (sym b.kept) b.within;
          seen =
              λ q k.
              one_more (λ (l : List (Feature ℕ)). KeepAll q l → LinesBehind q l was on before r out) (λ (l : List (Feature ℕ)). KeepAll q l → LinesBehind q l was on before v after)
              h here (w.seen q k) f p
              (λ l y e i done keep.
              let a = done (keep_front l y keep) in
              let c = b.says q y e k i (plans.says q y e k i (keep y (in_last l y))) in
              record { lines = a.lines ++ c.line; are = lines_more a.are c.is; laid = more_then a.laid c.laid });
        }

    pub laying_stuck : n ≤ at → LaysRest s first known was on before r out
    laying_stuck l =
        record { says = λ q k y e d fol keep. absurd (stuck (λ (l : List (Feature ℕ)). KeepAll q l → LinesBehind q l was on before r out) h here (w.seen q k) f p l y e d fol) }

  pub laying_done : t ≡ false → LaysRest s first known was on before r out
  laying_done h =
      record { says = λ q k l e d fol. all_seen (λ (l : List (Feature ℕ)). KeepAll q l → LinesBehind q l was on before r out) h here (w.seen q k) l e d fol }

-- ---- the first line, and the others behind it

pub all_laid : {s out mid after : List ℕ} {known : Known} {g : FoundFeature} {x : Planned} {next : ℕ} {on : Bool} {v r : Laid} → Plans s known g x → PassesFeature s g next
    → LaysLine s known g x.plan on out v mid → LaysRest s next known v on mid r after → LaysAll s known g on out r after
all_laid {s} {out} {known = known} {g} {on = on} plans passes line rest =
    record {
      says =
          λ q k f keep.
          let all = subst (KeepAll q) f.are keep in
          let a = line.says q f.first f.next k f.is (plans.says q f.first f.next k f.is (all f.first (0, refl))) in
          let stand = from (passes.is f.first f.next f.is f.follows) f.behind in
          let b = rest.says q k f.others f.end stand f.closes (λ h i. all h (suc i.0, i.1)) in
          record {
            lines = a.line ++ b.lines;
            are = subst (λ (l : List (Feature ℕ)). Lines q l (a.line ++ b.lines)) (sym f.are) (lines_first a.is b.are);
            laid = b.laid.says 0 a.line _ a.laid;
          };
    }

-- ---- measured, and then written

-- what a pass that measures says: the room is as it was
measured_as : {x room after : List ℕ} {r : Laid} → Lays [] 0 x room (pass_of false) r after → (after ≡ room) × InRoom (length x) 0 (length room) r
measured_as (Lays.measured h) = (refl, h)

short_by : {x room : List ℕ} {e : Stopped} → InRoom (length x) 0 (length room) (Err e) → Lent room (give x) 34 0 0 room
short_by {x} (InRoom.short h) = Lent.short {x = x} (omega (arith, h))

written_by : {x room after : List ℕ} {n : ℕ} → length x ≤ length room → Lays [] 0 x room (pass_of true) (Ok n) after → Lent room (give x) 0 0 n after
written_by {x} {room} h l =
    let p = lays_written l in
    subst₂ (Lent room (give x) 0 0) (omega (arith, p.ends)) (sym (p.is ∙ sets_front x room h)) (Lent.written h)

written_not : {x room after : List ℕ} {e : Stopped} → length x ≤ length room → Lays [] 0 x room (pass_of true) (Err e) after → ⊥
written_not h (Lays.short k _) = omega (arith, h, k)

-- how a pass ended that is answered so
or_ok : {r : Laid} {n : ℕ} → result_or r (Err Short) ≡ Ok n → r ≡ Ok n
or_ok {r = Ok m} {n} z = let k : m ≡ n = cc in ap (λ (n : ℕ). Ok n) k
or_ok {r = Err e} z = absurd (true≢false (ap is_ok (sym z)))

or_err : {r : Laid} {e : Unwritten} → result_or r (Err Short) ≡ Err e → (x : Stopped) × (r ≡ Err x) × (e ≡ Short)
or_err {r = Ok m} z = absurd (true≢false (ap is_ok z))
or_err {r = Err x} {e} z = let k : e ≡ Short = cc in (x, refl, k)

module _ {s out mid : List ℕ} {known : Known} {g : FoundFeature} {m : Laid} (measured : LaysAll s known g false out m mid) where
  pub all_short : {e : Unwritten} → result_or m (Err Short) ≡ Err e → TranslatesAll s known g out (Err (refused_of e)) mid
  all_short z =
      let y = or_err z in
      rw y.2
      (record {
        says =
            λ q k f keep.
            let a = (subst (λ (m : Laid). LaysAll s known g false out m mid) y.1 measured).says q k f keep in
            let b = measured_as a.laid in
            record {
              lines = a.lines;
              are = a.are;
              lent = (λ e. omega (arith, e), subst (Lent out (give a.lines) 34 0 0) (sym b.0) (short_by b.1));
            };
      })

  module _ {n : ℕ} (z : result_or m (Err Short) ≡ Ok n) {r : Laid} {after : List ℕ} (w : LaysAll s known g true mid r after) where
    -- the lines that were measured are those that are written, and they fit
    record Fitting (q : Sequence ℕ) (end : Laid) : Type 0 where
      lines : List ℕ
      are : Lines q (features_of q) lines
      fit : length lines ≤ length out
      laid : Lays [] 0 lines out (pass_of true) end after

    fitting : {y : Laid} → r ≡ y → (q : Sequence ℕ) → Knows s q known → FirstFeature s q g → KeepAll q (features_of q) → Fitting q y
    fitting {y} e q k f keep =
        let a = (subst (λ (m : Laid). LaysAll s known g false out m mid) (or_ok z) measured).says q k f keep in
        let b = measured_as a.laid in
        let c = w.says q k f keep in
        let fit : length a.lines ≤ length out = omega (arith, fits_inside b.1) in
        record {
          lines = c.lines;
          are = c.are;
          fit = subst (λ (x : List ℕ). length x ≤ length out) (lines_once a.are c.are) fit;
          laid = subst₂ (λ (x : List ℕ) (y : Laid). Lays [] 0 c.lines x (pass_of true) y after) b.0 e c.laid;
        }

    pub all_written : {size : ℕ} → result_or r (Err Short) ≡ Ok size → TranslatesAll s known g out (Ok size) after
    all_written e = record { says = λ q k f keep. let x = fitting (or_ok e) q k f keep in record { lines = x.lines; are = x.are; lent = written_by x.fit x.laid } }

    pub all_fit : {e : Unwritten} → result_or r (Err Short) ≡ Err e → {v : LentAnswer} → TranslatesAll s known g out v after
    all_fit e = record { says = λ q k f keep. let x = fitting (or_err e).1 q k f keep in absurd (written_not x.fit x.laid) }
