-- Laws of `Took` and `Lost`: sequence, choice, what may be missing, repetition, another value. Each is proved once, for every form.
use Prim.Native.Nat.{ℕ, suc, ◌+◌, ◌≤◌, max}
use native.Mathlib.Nat.{add-suc, max-eq_left, max-eq_right, le-max_left}
use native.Mathlib.Decide.{dec_le}
use native.Mathlib.Omega.{arith}
use mathlib.Core.Path.{◌≡◌, refl, sym, ap, ◌∙◌, subst, subst₂}
use mathlib.Core.Logic.{◌⊎◌, inl, inr}
use mathlib.Core.Option.{Option, none, some}
use mathlib.Core.List.{List, [], ◌∷◌, ◌++◌, append_assoc, append-nil, append_cancel_left}
use lib.ListN.{length, take, drop, length-append, take-append-drop}
use lib.Seq.{take-take, take-append-add, drop_at, take-append_seam}
use Rattle.paper.specs.Form.{Form, ◌·◌, ◌∪◌, each, maybe}
use Rattle.read_steps.specs.Reads.{Took, Lost, Viable}

-- two texts that agree for k bytes agree for fewer
pub agree_le : (j k : ℕ) (x t : List ℕ) → j ≤ k → take k x ≡ take k t → take j x ≡ take j t
agree_le j k x t h e = sym (take-take j k x h) ∙ ap (take j) e ∙ take-take j k t h

-- and after a word that both start with
pub agree_drop : (w x t : List ℕ) (k : ℕ) → take (suc (length w + k)) (w ++ x) ≡ take (suc (length w + k)) (w ++ t) → take (suc k) x ≡ take (suc k) t
agree_drop w x t k e =
    append_cancel_left w _ _ (sym (take-append-add w x (suc k)) ∙ rw add-suc e ∙ take-append-add w t (suc k))

-- a text that agrees with w ++ u for more bytes than w has starts with w
pub starts : (x w u : List ℕ) (r : ℕ) → length w ≤ r → take (suc r) x ≡ take (suc r) (w ++ u) → x ≡ w ++ drop (length w) x
starts x w u r h e =
    sym (take-append-drop (length w) x)
    ∙ ap (λ (l : List ℕ). l ++ drop (length w) x) (agree_le (length w) (suc r) x (w ++ u) (omega arith) e ∙ take-append_seam w u)

-- ---- another value, for the texts at one place

module _ {A B : Type 0} (L : A → Form) (M : B → Form) (F : List ℕ → Type 0) (at : ℕ) (to : A → List ℕ → B)
    (there : (a : A) (w : List ℕ) → L a at w → M (to a w) at w)
    (back : (b : B) (w : List ℕ) → M b at w → (a : A) × L a at w × (b ≡ to a w)) where
  viable_as : (u : List ℕ) → Viable L at u → Viable M at u
  viable_as u v = (to v.0 (u ++ v.1), v.1, there v.0 _ v.2)

  pub took_as : {t : List ℕ} {n r : ℕ} → Took L F at t n r → Took M F at t n r
  took_as {t} {n} {r} x =
      record {
        value = to x.value x.word;
        word = x.word;
        rest = x.rest;
        split = x.split;
        size = x.size;
        laid = there x.value x.word x.laid;
        upto = x.upto;
        inside = x.inside;
        viable = viable_as (take r t) x.viable;
        only =
            λ b w z m f e.
            let k = back b w m in
            let o = x.only k.0 w z k.1 f e in
            (k.2 ∙ ap (λ (a : A). to a w) o.0 ∙ ap (to x.value) o.1, o.1);
      }

  pub lost_as : {t : List ℕ} {j : ℕ} → Lost L F at t j → Lost M F at t j
  lost_as {t} {j} x =
      record {
        inside = x.inside;
        viable = viable_as (take j t) x.viable;
        none = λ b w z m f e. let k = back b w m in x.none k.0 w z k.1 f e;
      }

-- ---- sequence

module _ {A B : Type 0} (L : A → Form) (M : B → Form) (F G : List ℕ → Type 0)
    (fits : (b : B) (at : ℕ) (w z : List ℕ) → M b at w → G z → F (w ++ z))
    (ever : (at : ℕ) → Viable M at []) where
  abbrev pub Both : A × B → Form
  Both p = L p.0 · M p.1

  viable_first : (at : ℕ) (u : List ℕ) → Viable L at u → Viable Both at u
  viable_first at u v =
      let m = ever (at + length (u ++ v.1)) in
      ((v.0, m.0), v.1 ++ m.1, (u ++ v.1, m.1, sym (append_assoc u v.1 m.1), v.2, m.2))

  viable_then : (at : ℕ) (a : A) (w u : List ℕ) → L a at w → Viable M (at + length w) u → Viable Both at (w ++ u)
  viable_then at a w u l v = ((a, v.0), v.1, (w, u ++ v.1, append_assoc w u v.1, l, v.2))

  viable_max : (at : ℕ) (a : A) (w u : List ℕ) (r q : ℕ) → L a at w → Viable L at (take r (w ++ u)) → Viable M (at + length w) (take q u)
      → Dec (r ≤ length w + q) → Viable Both at (take (max r (length w + q)) (w ++ u))
  viable_max at a w u r q l v m (yes h) =
      subst (λ (k : ℕ). Viable Both at (take k (w ++ u))) (sym (max-eq_right h))
      (subst (Viable Both at) (sym (take-append-add w u q)) (viable_then at a w (take q u) l m))
  viable_max at a w u r q l v m (no h) =
      subst (λ (k : ℕ). Viable Both at (take k (w ++ u))) (sym (max-eq_left {n = r} {m = length w + q} (omega arith))) (viable_first at (take r (w ++ u)) v)

  -- what the first part was, from an agreement of the whole
  first_part : {at : ℕ} {t : List ℕ} {n r : ℕ} (k : ℕ) (x : Took L F at t n r) → r ≤ k
      → (p : A × B) (u v z : List ℕ) → L p.0 at u → M p.1 (at + length u) v → G z → take (suc k) ((u ++ v) ++ z) ≡ take (suc k) t
      → (p.0 ≡ x.value) × (u ≡ x.word) × (take (suc k) (x.word ++ (v ++ z)) ≡ take (suc k) (x.word ++ x.rest))
  first_part {at} {t} {n} {r} k x h p u v z l m g e =
      let e' : take (suc k) (u ++ (v ++ z)) ≡ take (suc k) t = ap (take (suc k)) (sym (append_assoc u v z)) ∙ e in
      let o = x.only p.0 u (v ++ z) l (fits p.1 _ v z m g) (agree_le (suc r) (suc k) (u ++ (v ++ z)) t (omega arith) e') in
      (o.0, o.1, ap (λ (c : List ℕ). take (suc k) (c ++ (v ++ z))) (sym o.1) ∙ e' ∙ ap (take (suc k)) x.split)

  module _ {at : ℕ} {t : List ℕ} {n r : ℕ} (x : Took L F at t n r) where
    rest_is : drop n t ≡ x.rest
    rest_is = ap (drop n) x.split ∙ drop_at x.word x.rest n (sym x.size)

    whole : length t ≡ n + length x.rest
    whole = ap length x.split ∙ length-append x.word x.rest ∙ ap (λ (k : ℕ). k + length x.rest) (sym x.size)

    pub seq_took : {m q : ℕ} → Took M G (at + n) (drop n t) m q → Took Both G at t (n + m) (max r (n + q))
    seq_took {m} {q} y' =
        let y : Took M G (at + length x.word) x.rest m q =
        subst₂ (λ (p : ℕ) (l : List ℕ). Took M G p l m q) (ap (λ (k : ℕ). at + k) x.size) rest_is y' in
        let w = x.word in
        let v = y.word in
        record {
          value = (x.value, y.value);
          word = w ++ v;
          rest = y.rest;
          split = x.split ∙ ap (λ (l : List ℕ). w ++ l) y.split ∙ sym (append_assoc w v y.rest);
          size = ap (λ (k : ℕ). k + m) x.size ∙ ap (λ (k : ℕ). length w + k) y.size ∙ sym (length-append w v);
          laid = (w, v, refl, x.laid, y.laid);
          upto = omega (arith, y.upto);
          inside = omega (arith, whole, x.inside, y.inside);
          viable =
              subst₂ (λ (k : ℕ) (l : List ℕ). Viable Both at (take (max r (k + q)) l)) (sym x.size) (sym x.split)
              (viable_max at x.value w x.rest r q x.laid
              (subst (λ (l : List ℕ). Viable L at (take r l)) x.split x.viable) y.viable (dec_le r (length w + q)));
          only =
              λ p c z d g e.
              let e' = ap (λ (l : List ℕ). take (suc (max r (n + q))) (l ++ z)) (sym d.2) ∙ e in
              let o = first_part (max r (n + q)) x (le-max_left r (n + q)) p d.0 d.1 z d.3 d.4 g e' in
              let e₂ = agree_drop w (d.1 ++ z) x.rest q
              (agree_le (suc (length w + q)) (suc (max r (n + q))) (w ++ (d.1 ++ z)) (w ++ x.rest) (omega (arith, x.size)) o.2) in
              let m' = subst (λ (l : List ℕ). M p.1 (at + length l) d.1) o.1 d.4 in
              let o₂ = y.only p.1 d.1 z m' g e₂ in
              (λ i. (o.0 i, o₂.0 i), d.2 ∙ (λ i. o.1 i ++ o₂.1 i));
        }

    pub seq_lost : {j : ℕ} → Lost M G (at + n) (drop n t) j → Lost Both G at t (max r (n + j))
    seq_lost {j} y' =
        let y : Lost M G (at + length x.word) x.rest j =
        subst₂ (λ (p : ℕ) (l : List ℕ). Lost M G p l j) (ap (λ (k : ℕ). at + k) x.size) rest_is y' in
        let w = x.word in
        record {
          inside = omega (arith, whole, x.inside, y.inside);
          viable =
              subst₂ (λ (k : ℕ) (l : List ℕ). Viable Both at (take (max r (k + j)) l)) (sym x.size) (sym x.split)
              (viable_max at x.value w x.rest r j x.laid
              (subst (λ (l : List ℕ). Viable L at (take r l)) x.split x.viable) y.viable (dec_le r (length w + j)));
          none =
              λ p c z d g e.
              let e' = ap (λ (l : List ℕ). take (suc (max r (n + j))) (l ++ z)) (sym d.2) ∙ e in
              let o = first_part (max r (n + j)) x (le-max_left r (n + j)) p d.0 d.1 z d.3 d.4 g e' in
              let e₂ = agree_drop w (d.1 ++ z) x.rest j
              (agree_le (suc (length w + j)) (suc (max r (n + j))) (w ++ (d.1 ++ z)) (w ++ x.rest) (omega (arith, x.size)) o.2) in
              let m' = subst (λ (l : List ℕ). M p.1 (at + length l) d.1) o.1 d.4 in
              y.none p.1 d.1 z m' g e₂;
        }

  pub seq_stop : {at : ℕ} {t : List ℕ} {j : ℕ} → Lost L F at t j → Lost Both G at t j
  seq_stop {at} {t} {j} x =
      record {
        inside = x.inside;
        viable = viable_first at (take j t) x.viable;
        none =
            λ p c z d g e.
            let e' = ap (λ (l : List ℕ). take (suc j) l) (sym (append_assoc d.0 d.1 z))
            ∙ ap (λ (l : List ℕ). take (suc j) (l ++ z)) (sym d.2) ∙ e in
            x.none p.0 d.0 (d.1 ++ z) d.3 (fits p.1 _ d.1 z d.4 g) e';
      }

-- ---- before a narrower text

module _ {A : Type 0} (L : A → Form) (F G : List ℕ → Type 0) (under : (z : List ℕ) → G z → F z) where
  pub took_before : {at : ℕ} {t : List ℕ} {n r : ℕ} → Took L F at t n r → Took L G at t n r
  took_before x =
      record {
        value = x.value;
        word = x.word;
        rest = x.rest;
        split = x.split;
        size = x.size;
        laid = x.laid;
        upto = x.upto;
        inside = x.inside;
        viable = x.viable;
        only = λ b w z l g e. x.only b w z l (under z g) e;
      }

  pub lost_before : {at : ℕ} {t : List ℕ} {j : ℕ} → Lost L F at t j → Lost L G at t j
  lost_before x =
      record { inside = x.inside; viable = x.viable; none = λ b w z l g e. x.none b w z l (under z g) e }

-- ---- choice. `apart`: no text of M with what follows starts with a text of L

module _ {A : Type 0} (L M : A → Form) (F : List ℕ → Type 0)
    (apart : (a b : A) (at : ℕ) (w x z y : List ℕ) → L a at w → M b at x → F z → x ++ z ≡ w ++ y → ⊥) where
  abbrev pub Either : A → Form
  Either a = L a ∪ M a

  pub alt_left : {at : ℕ} {t : List ℕ} {n r : ℕ} → Took L F at t n r → Took Either F at t n r
  alt_left {at} {t} {n} {r} x =
      record {
        value = x.value;
        word = x.word;
        rest = x.rest;
        split = x.split;
        size = x.size;
        laid = inl x.laid;
        upto = x.upto;
        inside = x.inside;
        viable = (x.viable.0, x.viable.1, inl x.viable.2);
        only = λ b w z. cases b w z;
      }
    where
      cases : (b : A) (w z : List ℕ) → L b at w ⊎ M b at w → F z → take (suc r) (w ++ z) ≡ take (suc r) t → (b ≡ x.value) × (w ≡ x.word)
      cases b w z (inl l) f e = x.only b w z l f e
      cases b w z (inr m) f e =
          absurd (apart x.value b at x.word w z (drop (length x.word) (w ++ z)) x.laid m f
          (starts (w ++ z) x.word x.rest r (omega (arith, x.size, x.upto)) (e ∙ ap (take (suc r)) x.split)))

  viable_either : (at : ℕ) (t : List ℕ) (j r : ℕ) → Viable L at (take j t) → Viable M at (take r t) → Dec (j ≤ r) → Viable Either at (take (max j r) t)
  viable_either at t j r l m (yes h) = subst (λ (k : ℕ). Viable Either at (take k t)) (sym (max-eq_right h)) (m.0, m.1, inr m.2)
  viable_either at t j r l m (no h) =
      subst (λ (k : ℕ). Viable Either at (take k t)) (sym (max-eq_left {n = j} {m = r} (omega arith))) (l.0, l.1, inl l.2)

  pub alt_right : {at : ℕ} {t : List ℕ} {j n r : ℕ} → Lost L F at t j → Took M F at t n r → Took Either F at t n (max j r)
  alt_right {at} {t} {j} {n} {r} x y =
      record {
        value = y.value;
        word = y.word;
        rest = y.rest;
        split = y.split;
        size = y.size;
        laid = inr y.laid;
        upto = omega (arith, y.upto);
        inside = omega (arith, x.inside, y.inside);
        viable = viable_either at t j r x.viable y.viable (dec_le j r);
        only = λ b w z. cases b w z;
      }
    where
      cases : (b : A) (w z : List ℕ) → L b at w ⊎ M b at w → F z → take (suc (max j r)) (w ++ z) ≡ take (suc (max j r)) t → (b ≡ y.value) × (w ≡ y.word)
      cases b w z (inl l) f e = absurd (x.none b w z l f (agree_le (suc j) (suc (max j r)) (w ++ z) t (omega arith) e))
      cases b w z (inr m) f e = y.only b w z m f (agree_le (suc r) (suc (max j r)) (w ++ z) t (omega arith) e)

  pub alt_lost : {at : ℕ} {t : List ℕ} {j k : ℕ} → Lost L F at t j → Lost M F at t k → Lost Either F at t (max j k)
  alt_lost {at} {t} {j} {k} x y =
      record {
        inside = omega (arith, x.inside, y.inside);
        viable = viable_either at t j k x.viable y.viable (dec_le j k);
        none = λ b w z. cases b w z;
      }
    where
      cases : (b : A) (w z : List ℕ) → L b at w ⊎ M b at w → F z → take (suc (max j k)) (w ++ z) ≡ take (suc (max j k)) t → ⊥
      cases b w z (inl l) f e = x.none b w z l f (agree_le (suc j) (suc (max j k)) (w ++ z) t (omega arith) e)
      cases b w z (inr m) f e = y.none b w z m f (agree_le (suc k) (suc (max j k)) (w ++ z) t (omega arith) e)

-- ---- what may be missing. `apart`: what follows starts with no text of L

module _ {A : Type 0} (L : A → Form) (F : List ℕ → Type 0)
    (apart : (a : A) (at : ℕ) (w y : List ℕ) → L a at w → F (w ++ y) → ⊥) where
  -- where z follows at once, it starts with the word that was read
  no_empty : {at : ℕ} {t : List ℕ} {n r : ℕ} (G : List ℕ → Type 0) (x : Took L G at t n r) (z : List ℕ) → F z → take (suc r) z ≡ take (suc r) t → ⊥
  no_empty {at} {t} {n} {r} G x z f e =
      let s = starts z x.word x.rest r (omega (arith, x.size, x.upto)) (e ∙ ap (take (suc r)) x.split) in
      apart x.value at x.word (drop (length x.word) z) x.laid (subst F s f)

  pub some_took : {at : ℕ} {t : List ℕ} {n r : ℕ} → Took L F at t n r → Took (maybe L) F at t n r
  some_took {at} {t} {n} {r} x =
      record {
        value = some x.value;
        word = x.word;
        rest = x.rest;
        split = x.split;
        size = x.size;
        laid = x.laid;
        upto = x.upto;
        inside = x.inside;
        viable = (some x.viable.0, x.viable.1, x.viable.2);
        only = cases;
      }
    where
      cases : (b : Option A) (w z : List ℕ) → maybe L b at w → F z → take (suc r) (w ++ z) ≡ take (suc r) t → (b ≡ some x.value) × (w ≡ x.word)
      cases none w z l f e = absurd (no_empty F x z f (ap (λ (u : List ℕ). take (suc r) (u ++ z)) (sym l) ∙ e))
      cases (some b) w z l f e = let o = x.only b w z l f e in (ap some o.0, o.1)

  pub none_took : {at : ℕ} {t : List ℕ} {j : ℕ} → Lost L F at t j → Took (maybe L) F at t 0 j
  none_took {at} {t} {j} x =
      record {
        value = none;
        word = [];
        rest = t;
        split = refl;
        size = refl;
        laid = refl;
        upto = omega arith;
        inside = x.inside;
        viable = (some x.viable.0, x.viable.1, x.viable.2);
        only = cases;
      }
    where
      cases : (b : Option A) (w z : List ℕ) → maybe L b at w → F z → take (suc j) (w ++ z) ≡ take (suc j) t → (b ≡ none) × (w ≡ [])
      cases none w z l f e = (refl, l)
      cases (some b) w z l f e = absurd (x.none b w z l f e)

-- ---- repetition

module _ {A : Type 0} (L : A → Form) (F G : List ℕ → Type 0)
    (fits : (l : List A) (at : ℕ) (w z : List ℕ) → each L l at w → G z → F (w ++ z))
    (apart : (a : A) (at : ℕ) (w y : List ℕ) → L a at w → G (w ++ y) → ⊥) where
  ever_each : (at : ℕ) → Viable (each L) at []
  ever_each at = ([], [], refl)

  pub each_none : {at : ℕ} {t : List ℕ} {j : ℕ} → Lost L F at t j → Took (each L) G at t 0 j
  each_none {at} {t} {j} x =
      record {
        value = [];
        word = [];
        rest = t;
        split = refl;
        size = refl;
        laid = refl;
        upto = omega arith;
        inside = x.inside;
        viable =
            (x.viable.0 ∷ [], x.viable.1, (take j t ++ x.viable.1, [], sym (append-nil (take j t ++ x.viable.1)), x.viable.2, refl));
        only = cases;
      }
    where
      cases : (b : List A) (w z : List ℕ) → each L b at w → G z → take (suc j) (w ++ z) ≡ take (suc j) t → (b ≡ []) × (w ≡ [])
      cases [] w z l g e = (refl, l)
      cases (b ∷ bs) w z d g e = absurd ((seq_stop L (each L) F G fits ever_each x).none (b, bs) w z d g e)

  pub each_more : {at : ℕ} {t : List ℕ} {n r m q : ℕ} → Took L F at t n r → Took (each L) G (at + n) (drop n t) m q
      → Took (each L) G at t (n + m) (max r (n + q))
  each_more {at} {t} {n} {r} {m} {q} x y =
      record {
        value = p.value.0 ∷ p.value.1;
        word = p.word;
        rest = p.rest;
        split = p.split;
        size = p.size;
        laid = p.laid;
        upto = p.upto;
        inside = p.inside;
        viable = (p.viable.0.0 ∷ p.viable.0.1, p.viable.1, p.viable.2);
        only = cases;
      }
    where
      p : Took (Both L (each L) F G fits ever_each) G at t (n + m) (max r (n + q))
      p = seq_took L (each L) F G fits ever_each x y

      cases : (b : List A) (w z : List ℕ) → each L b at w → G z → take (suc (max r (n + q))) (w ++ z) ≡ take (suc (max r (n + q))) t
          → (b ≡ p.value.0 ∷ p.value.1) × (w ≡ p.word)
      cases [] w z l g e =
          absurd (no_empty L G apart F x z g
          (agree_le (suc r) (suc (max r (n + q))) z t (omega arith) (ap (λ (u : List ℕ). take (suc (max r (n + q))) (u ++ z)) (sym l) ∙ e)))
      cases (b ∷ bs) w z d g e = let o = p.only (b, bs) w z d g e in (λ i. (o.0 i).0 ∷ (o.0 i).1, o.1)
