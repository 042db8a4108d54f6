-- The laws of `Reads`, from step to step: what each proof of a reading function cites.
use Prim.Native.Nat.{ℕ, suc, ◌+◌, ◌≤◌, ◌<◌, max}
use native.Mathlib.Nat.{add-zero}
use native.Mathlib.Omega.{arith}
use mathlib.Core.Path.{◌≡◌, refl, sym, ap, ◌∙◌, subst, subst₂}
use mathlib.Core.Bool.{Bool}
use mathlib.Core.List.{List, [], ◌++◌}
use lib.ListN.{length, take, drop, length-append, length-drop}
use lib.Seq.{drop-drop, drop-append_seam}
use Rattle.paper.specs.Form.{Form, one, ◌·◌, ◌∪◌, each, maybe}
use Rattle.std.specs.Prelude.{Ok, Err}
use Rattle.std.specs.Result.{IsErrAnd}
use Rattle.std.proofs.lemmas.Result.{err_from_is_err_and}
use Rattle.read_steps.specs.declared.Cursor.{Cursor}
use Rattle.read_steps.specs.declared.Stuck.{Stuck}
use Rattle.read_steps.specs.Reads.{Step, going, stuck, Took, Lost, Viable, Reads, ReadsAt, Passes, chosen, stayed, Tried}
use Rattle.read_steps.specs.Follow.{anything}
use Rattle.read_steps.specs.Texts.{One}
use Rattle.read_steps.proofs.Laws.{took_as, lost_as, seq_took, seq_lost, seq_stop, took_before, lost_before, alt_left, alt_right, alt_lost, some_took, none_took, each_none, each_more}

-- another value, at one place
module _ {A B : Type 0} (L : A → Form) (M : B → Form) (F : List ℕ → Type 0) (at : ℕ) (to : A → List ℕ → B)
    (there : (a : A) (w : List ℕ) → L a at w → M (to a w) at w)
    (back : (b : B) (w : List ℕ) → M b at w → (a : A) × L a at w × (b ≡ to a w)) where
  as_at : (s : List ℕ) (far : ℕ) (y : Step) → ReadsAt L F s (going at far) y → ReadsAt M F s (going at far) y
  as_at s far (Ok d) e = (e.0, e.1, e.2, e.3, took_as L M F at to there back e.4)
  as_at s far (Err k) e = (e.0, e.1, lost_as L M F at to there back e.2)

pub as_reads_at : {A B : Type 0} {L : A → Form} {M : B → Form} {F : List ℕ → Type 0} {at : ℕ} (to : A → List ℕ → B)
    (there : (a : A) (w : List ℕ) → L a at w → M (to a w) at w)
    (back : (b : B) (w : List ℕ) → M b at w → (a : A) × L a at w × (b ≡ to a w))
    {s : List ℕ} {far : ℕ} {y : Step} → Reads L F s (going at far) y → Reads M F s (going at far) y
as_reads_at {A} {B} {L} {M} {F} {at} to there back {s} {far} {y} e = record { is = as_at L M F at to there back s far y e.is }

-- another value, at every place
module _ {A B : Type 0} (L : A → Form) (M : B → Form) (F : List ℕ → Type 0) (to : A → ℕ → List ℕ → B)
    (there : (a : A) (at : ℕ) (w : List ℕ) → L a at w → M (to a at w) at w)
    (back : (b : B) (at : ℕ) (w : List ℕ) → M b at w → (a : A) × L a at w × (b ≡ to a at w)) where
  as_step : (s : List ℕ) (x y : Step) → ReadsAt L F s x y → ReadsAt M F s x y
  as_step s (Err k) y e = e
  as_step s (Ok c) y e = as_at L M F c.next (λ a. to a c.next) (λ a. there a c.next) (λ b. back b c.next) s c.far y e

pub as_reads : {A B : Type 0} {L : A → Form} {M : B → Form} {F : List ℕ → Type 0} (to : A → ℕ → List ℕ → B)
    (there : (a : A) (at : ℕ) (w : List ℕ) → L a at w → M (to a at w) at w)
    (back : (b : B) (at : ℕ) (w : List ℕ) → M b at w → (a : A) × L a at w × (b ≡ to a at w))
    {s : List ℕ} {x y : Step} → Reads L F s x y → Reads M F s x y
as_reads {A} {B} {L} {M} {F} to there back {s} {x} {y} e = record { is = as_step L M F to there back s x y e.is }

-- before a narrower text
module _ {A : Type 0} (L : A → Form) (F G : List ℕ → Type 0) (under : (z : List ℕ) → G z → F z) where
  before_at : (s : List ℕ) (x y : Step) → ReadsAt L F s x y → ReadsAt L G s x y
  before_at s (Err k) y e = e
  before_at s (Ok c) (Ok d) e = (e.0, e.1, e.2, e.3, took_before L F G under e.4)
  before_at s (Ok c) (Err k) e = (e.0, e.1, lost_before L F G under e.2)

pub before : {A : Type 0} {L : A → Form} {F G : List ℕ → Type 0} (under : (z : List ℕ) → G z → F z)
    {s : List ℕ} {x y : Step} → Reads L F s x y → Reads L G s x y
before {A} {L} {F} {G} under {s} {x} {y} e = record { is = before_at L F G under s x y e.is }

-- one after the other
module _ {A B : Type 0} (L : A → Form) (M : B → Form) (F G : List ℕ → Type 0)
    (fits : (b : B) (at : ℕ) (w z : List ℕ) → M b at w → G z → F (w ++ z))
    (ever : (at : ℕ) → Viable M at []) where
  seq_at : (s : List ℕ) (x y v : Step) → ReadsAt L F s x y → ReadsAt M G s y v → ReadsAt (λ (p : A × B). L p.0 · M p.1) G s x v
  seq_at s (Err k) y v e d = subst (λ (y' : Step). ReadsAt M G s y' v) e d
  seq_at s (Ok c) (Err j) v e d =
      subst (λ (v' : Step). ReadsAt (λ (p : A × B). L p.0 · M p.1) G s (Ok c) v') (sym d)
      (e.0, e.1, seq_stop L M F G fits ever e.2)
  seq_at s (Ok c) (Ok n) (Ok m) e d =
      let y = subst₂ (λ (p : ℕ) (l : List ℕ). Took M G p l d.0 d.1) e.2 (ap (λ (k : ℕ). drop k s) e.2 ∙ sym (drop-drop e.0 c.next s)) d.4 in
      (e.0 + d.0, max e.1 (e.0 + d.1), omega (arith, e.2, d.2), omega (arith, e.2, e.3, d.3), seq_took L M F G fits ever e.4 y)
  seq_at s (Ok c) (Ok n) (Err k) e d =
      let y = subst₂ (λ (p : ℕ) (l : List ℕ). Lost M G p l d.0) e.2 (ap (λ (k : ℕ). drop k s) e.2 ∙ sym (drop-drop e.0 c.next s)) d.2 in
      (max e.1 (e.0 + d.0), omega (arith, e.2, e.3, d.1), seq_lost L M F G fits ever e.4 y)

pub seq : {A B : Type 0} {L : A → Form} {M : B → Form} {F G : List ℕ → Type 0}
    (fits : (b : B) (at : ℕ) (w z : List ℕ) → M b at w → G z → F (w ++ z)) (ever : (at : ℕ) → Viable M at [])
    {s : List ℕ} {x y v : Step} → Reads L F s x y → Reads M G s y v → Reads (λ (p : A × B). L p.0 · M p.1) G s x v
seq {A} {B} {L} {M} {F} {G} fits ever {s} {x} {y} {v} e d = record { is = seq_at L M F G fits ever s x y v e.is d.is }

-- a form with no value, and then one with a value; and the other way round; and two with none
pub pass_then : {B : Type 0} {P : Form} {M : B → Form} {F G : List ℕ → Type 0}
    (fits : (b : B) (at : ℕ) (w z : List ℕ) → M b at w → G z → F (w ++ z)) (ever : (at : ℕ) → Viable M at [])
    {s : List ℕ} {x y v : Step} → Passes P F s x y → Reads M G s y v → Reads (λ (b : B). P · M b) G s x v
pass_then {B} {P} {M} fits ever e d =
    as_reads {L = λ (p : Unit {0} × B). P · M p.1} {M = λ (b : B). P · M b} (λ p at w. p.1) (λ p at w l. l) (λ b at w l. ((tt, b), l, refl))
    (seq {L = λ (u : Unit {0}). P} {M = M} fits ever e d)

pub then_pass : {A : Type 0} {L : A → Form} {P : Form} {F G : List ℕ → Type 0}
    (fits : (at : ℕ) (w z : List ℕ) → P at w → G z → F (w ++ z)) (ever : (at : ℕ) → (w : List ℕ) × P at w)
    {s : List ℕ} {x y v : Step} → Reads L F s x y → Passes P G s y v → Reads (λ (a : A). L a · P) G s x v
then_pass {A} {L} {P} fits ever e d =
    as_reads {L = λ (p : A × Unit {0}). L p.0 · P} {M = λ (a : A). L a · P} (λ p at w. p.0) (λ p at w l. l) (λ a at w l. ((a, tt), l, refl))
    (seq {L = L} {M = λ (u : Unit {0}). P} (λ b. fits) (λ at. (tt, (ever at).0, (ever at).1)) e d)

-- a choice
module _ {A : Type 0} (L M : A → Form) (F : List ℕ → Type 0)
    (apart : (a b : A) (at : ℕ) (w x z y : List ℕ) → L a at w → M b at x → F z → x ++ z ≡ w ++ y → ⊥) where
  either_at : (s : List ℕ) (x y v : Step) → ReadsAt L F s x y → ReadsAt M F s x v → ReadsAt (λ (a : A). L a ∪ M a) F s x (chosen y v)
  either_at s (Err k) y v e d =
      subst₂ (λ (y' v' : Step). chosen y' v' ≡ Err k) (sym e) (sym d) (ap stuck (omega arith))
  either_at s (Ok c) (Ok n) v e d = (e.0, e.1, e.2, e.3, alt_left L M F apart e.4)
  either_at s (Ok c) (Err k) (Ok n) e d =
      (d.0, max e.0 d.1, d.2, omega (arith, e.1, d.3), alt_right L M F apart e.2 d.4)
  either_at s (Ok c) (Err k) (Err j) e d =
      (max e.0 d.0, omega (arith, e.1, d.1), alt_lost L M F apart e.2 d.2)

pub either : {A : Type 0} {L M : A → Form} {F : List ℕ → Type 0}
    (apart : (a b : A) (at : ℕ) (w x z y : List ℕ) → L a at w → M b at x → F z → x ++ z ≡ w ++ y → ⊥)
    {s : List ℕ} {x y v r : Step} → Reads L F s x y → Reads M F s x v → r ≡ chosen y v → Reads (λ (a : A). L a ∪ M a) F s x r
either {A} {L} {M} {F} apart {s} {x} {y} {v} {r} e d h =
    subst (Reads (λ (a : A). L a ∪ M a) F s x) (sym h) (record { is = either_at L M F apart s x y v e.is d.is })

-- the first of two where it succeeds; and the second, read on from what the first reached
pub either_first : {A : Type 0} {L M : A → Form} {F : List ℕ → Type 0}
    (apart : (a b : A) (at : ℕ) (w x z y : List ℕ) → L a at w → M b at x → F z → x ++ z ≡ w ++ y → ⊥)
    {s : List ℕ} {at far n f : ℕ} → Reads L F s (going at far) (going n f) → Reads (λ (a : A). L a ∪ M a) F s (going at far) (going n f)
either_first {A} {L} {M} {F} apart e' = let e = e'.is in record { is = (e.0, e.1, e.2, e.3, alt_left L M F apart e.4) }

module _ {A : Type 0} (L M : A → Form) (F : List ℕ → Type 0)
    (apart : (a b : A) (at : ℕ) (w x z y : List ℕ) → L a at w → M b at x → F z → x ++ z ≡ w ++ y → ⊥) where
  second_at : (s : List ℕ) (at far k : ℕ) (y : Step) → ReadsAt L F s (going at far) (stuck k) → ReadsAt M F s (going at k) y
      → ReadsAt (λ (a : A). L a ∪ M a) F s (going at far) y
  second_at s at far k (Ok n) e d = (d.0, max e.0 d.1, d.2, omega (arith, e.1, d.3), alt_right L M F apart e.2 d.4)
  second_at s at far k (Err j) e d = (max e.0 d.0, omega (arith, e.1, d.1), alt_lost L M F apart e.2 d.2)

pub either_second : {A : Type 0} {L M : A → Form} {F : List ℕ → Type 0}
    (apart : (a b : A) (at : ℕ) (w x z y : List ℕ) → L a at w → M b at x → F z → x ++ z ≡ w ++ y → ⊥)
    {s : List ℕ} {at far k : ℕ} {y : Step} → Reads L F s (going at far) (stuck k) → Reads M F s (going at k) y → Reads (λ (a : A). L a ∪ M a) F s (going at far) y
either_second {A} {L} {M} {F} apart {s} {at} {far} {k} {y} e d = record { is = second_at L M F apart s at far k y e.is d.is }

-- what may be missing: the step before it is taken where it is not there
module _ {A : Type 0} (L : A → Form) (F : List ℕ → Type 0)
    (apart : (a : A) (at : ℕ) (w y : List ℕ) → L a at w → F (w ++ y) → ⊥) where
  skip_at : (s : List ℕ) (x y : Step) → ReadsAt L F s x y → ReadsAt (maybe L) F s x (chosen y x)
  skip_at s (Err k) y e = subst (λ (y' : Step). chosen y' (Err k) ≡ Err k) (sym e) (ap stuck (omega arith))
  skip_at s (Ok c) (Ok n) e = (e.0, e.1, e.2, e.3, some_took L F apart e.4)
  skip_at s (Ok c) (Err k) e = (0, e.0, sym (add-zero c.next), omega (arith, e.1), none_took L F apart e.2)

pub skip : {A : Type 0} {L : A → Form} {F : List ℕ → Type 0}
    (apart : (a : A) (at : ℕ) (w y : List ℕ) → L a at w → F (w ++ y) → ⊥)
    {s : List ℕ} {x y r : Step} → Reads L F s x y → r ≡ chosen y x → Reads (maybe L) F s x r
skip {A} {L} {F} apart {s} {x} {y} {r} e h =
    subst (Reads (maybe L) F s x) (sym h) (record { is = skip_at L F apart s x y e.is })

-- the same from a trial; and what makes a trial
pub skip_tried : {A : Type 0} {L : A → Form} {F : List ℕ → Type 0}
    (apart : (a : A) (at : ℕ) (w y : List ℕ) → L a at w → F (w ++ y) → ⊥)
    {G : List ℕ → Type 0} (under : (z : List ℕ) → F z → G z)
    {s : List ℕ} {x r : Step} → Tried L G s x r → Reads (maybe L) F s x r
skip_tried {A} {L} {F} apart {G} under t = skip apart (before under t.reads) t.is

module _ {A : Type 0} (L : A → Form) (F : List ℕ → Type 0) where
  stayed_is : (s : List ℕ) (at far : ℕ) (y : Step) → ReadsAt L F s (going at far) y → stayed at y ≡ chosen y (going at far)
  stayed_is s at far (Ok n) e = refl
  stayed_is s at far (Err k) e = ap (going at) (omega (arith, e.1))

pub tried : {A : Type 0} {L : A → Form} {F : List ℕ → Type 0} {s : List ℕ} {c : Cursor} {x y r : Step}
    → x ≡ Ok c → Reads L F s (Ok c) y → r ≡ stayed c.next y → Tried L F s x r
tried {A} {L} {F} {s} {c} {x} {y} {r} h e d =
    subst (λ (v : Step). Tried L F s v r) (sym h) (record { step = y; reads = e; is = d ∙ stayed_is L F s c.next c.far y e.is })

pub tried_failed : {A : Type 0} {L : A → Form} {F : List ℕ → Type 0} {s : List ℕ} {x r : Step} (k : Stuck) → x ≡ Err k → r ≡ x → Tried L F s x r
tried_failed {A} {L} {F} {s} {x} {r} k h d =
    subst (λ (v : Step). Tried L F s v r) (sym h) (record { step = Err k; reads = record { is = refl }; is = d ∙ h ∙ ap stuck (omega arith) })

-- a repetition: where it stops, and one more before it
module _ {A : Type 0} {L : A → Form} {F G : List ℕ → Type 0}
    (fits : (l : List A) (at : ℕ) (w z : List ℕ) → each L l at w → G z → F (w ++ z))
    (apart : (a : A) (at : ℕ) (w y : List ℕ) → L a at w → G (w ++ y) → ⊥) where
  pub stop : {s : List ℕ} {at far k : ℕ} → Reads L F s (going at far) (stuck k) → Reads (each L) G s (going at far) (going at k)
  stop {s} {at} {far} {k} e' = let e = e'.is in record { is = (0, e.0, sym (add-zero at), e.1, each_none L F G fits apart e.2) }

  pub more : {s : List ℕ} {at far n f m g : ℕ} → Reads L F s (going at far) (going n f) → Reads (each L) G s (going n f) (going m g)
      → Reads (each L) G s (going at far) (going m g)
  more {s} {at} {far} {n} {f} {m} {g} e' d' =
      let e = e'.is in
      let d = d'.is in
      let y = subst₂ (λ (p : ℕ) (l : List ℕ). Took (each L) G p l d.0 d.1) e.2 (ap (λ (k : ℕ). drop k s) e.2 ∙ sym (drop-drop e.0 at s)) d.4 in
      record {
        is = (
          e.0 + d.0,
          max e.1 (e.0 + d.1),
          omega (arith, e.2, d.2),
          omega (arith, e.2, e.3, d.3),
          each_more L F G fits apart e.4 y,
        );
      }

-- a reading of a text that is not empty goes on, and stays within the text
pub onwards : {A : Type 0} {L : A → Form} {F : List ℕ → Type 0} → ((a : A) (at : ℕ) (w : List ℕ) → L a at w → 0 < length w)
    → {s : List ℕ} {at far n f : ℕ} → Reads L F s (going at far) (going n f) → (at < n) × (n ≤ length s)
onwards long {s} {at} {far} {n} {f} e' =
    let e = e'.is in
    let x = e.4 in
    let h = long x.value at x.word x.laid in
    let k = length-drop at s in
    let p = ap length x.split ∙ length-append x.word x.rest in
    (omega (arith, e.2, x.size), omega (arith, e.2, x.size))

-- one byte of a class, whichever it is
module _ (f : ℕ → Bool) {at : ℕ} {t : List ℕ} where
  pub one_took : {n r : ℕ} → Took (One f) anything at t n r → Took (λ (u : Unit {0}). one f) anything at t n r
  one_took x =
      took_as (One f) (λ (u : Unit {0}). one f) anything at (λ b w. tt) (λ b w l. (b, l.0, l.1)) (λ u w l. (l.0, (l.1, l.2), refl)) x

  pub one_lost : {j : ℕ} → Lost (One f) anything at t j → Lost (λ (u : Unit {0}). one f) anything at t j
  one_lost x =
      lost_as (One f) (λ (u : Unit {0}). one f) anything at (λ b w. tt) (λ b w l. (b, l.0, l.1)) (λ u w l. (l.0, (l.1, l.2), refl)) x

-- the step that a `match` names
pub step_is : {A : Type 0} {L : A → Form} {F : List ℕ → Type 0} {s : List ℕ} {x y v : Step} → Reads L F s x y → y ≡ v → Reads L F s x v
step_is {A} {L} {F} {s} {x} e h = subst (Reads L F s x) h e

pub step_from : {A : Type 0} {L : A → Form} {F : List ℕ → Type 0} {s : List ℕ} {x y v : Step} → v ≡ x → Reads L F s x y → Reads L F s v y
step_from {A} {L} {F} {s} {x} {y} h e = subst (λ (v : Step). Reads L F s v y) (sym h) e

pub step_to : {A : Type 0} {L : A → Form} {F : List ℕ → Type 0} {s : List ℕ} {x y v : Step} → y ≡ v → Reads L F s x v → Reads L F s x y
step_to {A} {L} {F} {s} {x} h e = subst (Reads L F s x) (sym h) e

-- what a step that goes on finds at its place
module _ {A : Type 0} {L : A → Form} {F : List ℕ → Type 0} {s : List ℕ} {x : Step} {c : Cursor} (h : x ≡ Ok c) where
  pub found : {n next far : ℕ} → next ≡ c.next + n → far ≡ max c.far next → Took L F c.next (drop c.next s) n n → Reads L F s x (going next far)
  found {n} e f t = step_from h (record { is = (n, n, e, omega (arith, e, f), t) })

  pub lacks : {j far : ℕ} → far ≡ max c.far (c.next + j) → Lost L F c.next (drop c.next s) j → Reads L F s x (stuck far)
  lacks {j} e l = step_from h (record { is = (j, e, l) })

-- a step that failed stays as it is
pub failed : {A : Type 0} {L : A → Form} {F : List ℕ → Type 0} {s : List ℕ} {x : Step} (k : Stuck) → x ≡ Err k → Reads L F s x x
failed {A} {L} {F} {s} {x} k h = subst (λ (v : Step). Reads L F s v v) (sym h) (record { is = refl })

pub failed_at : {A : Type 0} {L : A → Form} {F : List ℕ → Type 0} {s : List ℕ} {x : Step} {k : Stuck} → x ≡ Err k → Reads L F s x (Err k)
failed_at h = step_from h (record { is = refl })

-- what `?` hands on of a step that failed
pub handed : {k : Stuck} (r : Step) → IsErrAnd r (λ y. y ≡ k) → r ≡ Err k
handed r q = let p = err_from_is_err_and r q in p.1 ∙ ap Err p.2

pub handed_on : {A : Type 0} {L : A → Form} {F : List ℕ → Type 0} {s : List ℕ} {x : Step} {k : Stuck} (r : Step) → x ≡ Err k
    → IsErrAnd r (λ y. y ≡ k) → Reads L F s x r
handed_on r h q = step_to (handed r q) (failed_at h)

-- Where a text of the form stands, with what may follow it, the reading finds it: the converse, from `only` and `none`
module _ {A : Type 0} (L : A → Form) (F : List ℕ → Type 0) (s : List ℕ) (at far : ℕ) (b : A) (w z : List ℕ)
    (laid : L b at w) (fol : F z) (here : drop at s ≡ w ++ z) where
  known_at : (y : Step) → ReadsAt L F s (going at far) y → (f : ℕ) × (y ≡ going (at + length w) f)
  known_at (Ok n) e =
      let x = e.4 in
      let o = x.only b w z laid fol (ap (take (suc e.1)) (sym here)) in
      (n.far, ap (λ (k : ℕ). going k n.far) (e.2 ∙ ap (λ (k : ℕ). at + k) (x.size ∙ ap length (sym o.1))))
  known_at (Err k) e = absurd (e.2.none b w z laid fol (ap (take (suc e.0)) (sym here)))

  pub known : {y : Step} → Reads L F s (going at far) y → (f : ℕ) × (y ≡ going (at + length w) f)
  known {y} e = known_at y e.is

-- the step y is at the place `at` of s, before the text z
abbrev pub StandsAt : List ℕ → Step → ℕ → List ℕ → Type 0
StandsAt s y at z = (f : ℕ) × (y ≡ going at f) × (drop at s ≡ z)

pub go : {A : Type 0} (L : A → Form) (F : List ℕ → Type 0) {s : List ℕ} {x y : Step} (at : ℕ) (b : A) (w z : List ℕ)
    → StandsAt s x at (w ++ z) → L b at w → F z → Reads L F s x y → StandsAt s y (at + length w) z
go L F {s} {x} {y} at b w z h l g e =
    let k = known L F s at h.0 b w z l g h.2 (subst (λ (v : Step). Reads L F s v y) h.1 e) in
    (k.0, k.1, sym (drop-drop (length w) at s) ∙ ap (drop (length w)) h.2 ∙ drop-append_seam w z)
