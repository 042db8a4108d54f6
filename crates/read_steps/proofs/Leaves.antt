-- What a reader of bytes, of a class, or of the end has found, from the facts that its loop or its tests show.
use Prim.Native.Nat.{ℕ, zero, suc, ◌+◌, ◌≤◌, ◌<◌}
use native.Mathlib.Omega.{arith}
use mathlib.Core.Path.{◌≡◌, refl, sym, ap, ◌∙◌, subst, ap₂}
use mathlib.Core.Bool.{Bool, true, false}
use mathlib.Core.List.{List, [], ◌∷◌, ◌++◌, append-nil}
use lib.ListN.{length, take, drop, get_or, length-append, length-take, take-append-drop, get_or-append}
use lib.Seq.{get_or-drop, take-length, get_or-take, take-suc, length-take-le}
use Rattle.paper.specs.Bytes.{all}
use Rattle.paper.specs.Form.{these, run}
use Rattle.read_steps.specs.Reads.{Took, Lost}
use Rattle.read_steps.specs.Follow.{Not, anything, nothing}
use Rattle.read_steps.specs.Texts.{One}

-- ---- these bytes

-- t starts with i bytes of x
abbrev pub Same : List ℕ → List ℕ → ℕ → Type 0
Same t x i = take i t ≡ take i x

pub same_long : (t x : List ℕ) (i : ℕ) → i ≤ length x → Same t x i → i ≤ length t
same_long t x i h e = omega (arith, length-take i t, length-take i x, ap length e)

pub same_more : (t x : List ℕ) (i : ℕ) → i < length x → i < length t → Same t x i → get_or t i 0 ≡ get_or x i 0 → Same t x (suc i)
same_more t x i h k e d = take-suc t i 0 k ∙ (λ j. e j ++ (d j ∷ [])) ∙ sym (take-suc x i 0 h)

pub these_took : (x t : List ℕ) (at : ℕ) → Same t x (length x) → Took (λ (u : Unit {0}). these x) anything at t (length x) (length x)
these_took x t at e =
    let k : length x ≤ length t = same_long t x (length x) (omega arith) e in
    let p : take (length x) t ≡ x = e ∙ take-length x in
    record {
      value = tt;
      word = x;
      rest = drop (length x) t;
      split = sym (take-append-drop (length x) t) ∙ ap (λ (l : List ℕ). l ++ drop (length x) t) p;
      size = refl;
      laid = refl;
      upto = omega arith;
      inside = k;
      viable = (tt, [], append-nil (take (length x) t) ∙ p);
      only = λ b w z l f e. (refl, l);
    }

-- the bytes differ at i, or t ends there
these_lost : (x t : List ℕ) (at i : ℕ) → i < length x → Same t x i
    → ((z : List ℕ) → take (suc i) (x ++ z) ≡ take (suc i) t → ⊥) → Lost (λ (u : Unit {0}). these x) anything at t i
these_lost x t at i h e d =
    record {
      inside = same_long t x i (omega arith) e;
      viable = (tt, drop i x, ap (λ (l : List ℕ). l ++ drop i x) e ∙ take-append-drop i x);
      none = λ b w z l f a. d z (ap (λ (l : List ℕ). take (suc i) (l ++ z)) (sym l) ∙ a);
    }

pub these_differ : (x t : List ℕ) (at i : ℕ) → i < length x → Same t x i → (get_or t i 0 ≡ get_or x i 0 → ⊥) → Lost (λ (u : Unit {0}). these x) anything at t i
these_differ x t at i h e d =
    these_lost x t at i h e
    (λ z a. d
    (sym (get_or-take (suc i) t i 0 (omega arith)) ∙ ap (λ (l : List ℕ). get_or l i 0) (sym a)
    ∙ get_or-take (suc i) (x ++ z) i 0 (omega arith) ∙ get_or-append x z 0 i h))

pub these_end : (x t : List ℕ) (at i : ℕ) → i < length x → Same t x i → length t ≤ i → Lost (λ (u : Unit {0}). these x) anything at t i
these_end x t at i h e d =
    these_lost x t at i h e
    (λ z a. omega (arith, ap length a, length-take (suc i) (x ++ z), length-take (suc i) t, length-append x z))

-- ---- a run of a class

bool_clash : (b : Bool) → b ≡ true → b ≡ false → ⊥
bool_clash b p q = let z : true ≡ false = sym p ∙ q in elim (subst is_true z tt) [ ]
  where
    is_true : Bool → Type 0
    is_true true = Unit {0}
    is_true false = ⊥

module _ (f : ℕ → Bool) where
  clash : (b c : ℕ) → b ≡ c → f b ≡ true → f c ≡ false → ⊥
  clash b c e p q = bool_clash (f c) (ap f (sym e) ∙ p) q

  -- the longest run is the only one
  run_only : (u rest w z : List ℕ) → all f u → Not f rest → all f w → Not f z
      → take (suc (length u)) (w ++ z) ≡ take (suc (length u)) (u ++ rest) → w ≡ u
  run_only [] rest [] z a n p q e = refl
  run_only [] [] (b ∷ w) z a n p q e = let x : ◌≡◌ {A = ℕ} 0 1 = cc in absurd (omega arith)
  run_only [] (c ∷ rest) (b ∷ w) z a n p q e = absurd (clash b c (cc) p.0 n)
  run_only (c ∷ u) rest [] [] a n p q e = let x : ◌≡◌ {A = ℕ} 0 1 = cc in absurd (omega arith)
  run_only (c ∷ u) rest [] (d ∷ z) a n p q e = absurd (clash c d (cc) a.0 q)
  run_only (c ∷ u) rest (b ∷ w) z a n p q e =
      let h : b ≡ c = cc in
      let k : take (suc (length u)) (w ++ z) ≡ take (suc (length u)) (u ++ rest) = cc in
      λ i. h i ∷ run_only u rest w z a.1 n p.1 q k i

  all_snoc : (u : List ℕ) (b : ℕ) → all f u → f b ≡ true → all f (u ++ (b ∷ []))
  all_snoc [] b a p = (p, tt)
  all_snoc (c ∷ u) b a p = (a.0, all_snoc u b a.1 p)

  pub run_more : (t : List ℕ) (n : ℕ) → n < length t → all f (take n t) → f (get_or t n 0) ≡ true → all f (take (suc n) t)
  run_more t n h a p = subst (all f) (sym (take-suc t n 0 h)) (all_snoc (take n t) (get_or t n 0) a p)

  pub not_at : (t : List ℕ) (n : ℕ) → f (get_or t n 0) ≡ false → Not f (drop n t)
  not_at [] zero p = tt
  not_at [] (suc n) p = tt
  not_at (b ∷ t) zero p = p
  not_at (b ∷ t) (suc n) p = not_at t n p

  pub not_over : (t : List ℕ) (n : ℕ) → length t ≤ n → Not f (drop n t)
  not_over [] zero h = tt
  not_over [] (suc n) h = tt
  not_over (b ∷ t) zero h = absurd (omega arith)
  not_over (b ∷ t) (suc n) h = not_over t n (omega arith)

  run_took : (t : List ℕ) (at n : ℕ) → n ≤ length t → all f (take n t) → Not f (drop n t)
      → Took (λ (u : Unit {0}). run f) (Not f) at t n n
  run_took t at n h a d =
      let k : length (take n t) ≡ n = length-take-le n t h in
      record {
        value = tt;
        word = take n t;
        rest = drop n t;
        split = sym (take-append-drop n t);
        size = sym k;
        laid = a;
        upto = omega arith;
        inside = h;
        viable = (tt, [], subst (all f) (sym (append-nil (take n t))) a);
        only =
            λ b w z p q e. (
              refl,
              run_only (take n t) (drop n t) w z a d p q
                  (subst (λ (m : ℕ). take (suc m) (w ++ z) ≡ take (suc m) (take n t ++ drop n t)) (sym k)
                  (e ∙ ap (take (suc n)) (sym (take-append-drop n t)))),
            );
      }

  pub run_stops : (t : List ℕ) (at n : ℕ) → n ≤ length t → all f (take n t) → f (get_or t n 0) ≡ false
      → Took (λ (u : Unit {0}). run f) (Not f) at t n n
  run_stops t at n h a p = run_took t at n h a (not_at t n p)

  pub run_ends : (t : List ℕ) (at n : ℕ) → n ≤ length t → all f (take n t) → length t ≤ n
      → Took (λ (u : Unit {0}). run f) (Not f) at t n n
  run_ends t at n h a p = run_took t at n h a (not_over t n p)

  -- ---- one byte of a class, with the byte as its value

  pub byte_took : (t : List ℕ) (at : ℕ) → 0 < length t → f (get_or t 0 0) ≡ true → Took (One f) anything at t 1 1
  byte_took [] at h p = absurd (omega arith)
  byte_took (b ∷ t) at h p =
      record {
        value = b;
        word = b ∷ [];
        rest = t;
        split = refl;
        size = refl;
        laid = (refl, p);
        upto = omega arith;
        inside = omega arith;
        viable = (b, [], (refl, p));
        only =
            λ c w z l g e.
            let h : c ≡ b = same_head c w z b t l.0 e in
            (h, l.0 ∙ (λ i. h i ∷ []));
      }
    where
      same_head : (c : ℕ) (w z : List ℕ) (b : ℕ) (t : List ℕ) → w ≡ c ∷ [] → take (suc 1) (w ++ z) ≡ take (suc 1) (b ∷ t) → c ≡ b
      same_head c w z b t l e =
          let e' : take 2 ((c ∷ []) ++ z) ≡ take 2 (b ∷ t) = ap (λ (l : List ℕ). take 2 (l ++ z)) (sym l) ∙ e in
          cc

  pub byte_lost : (t : List ℕ) (at b : ℕ) → f b ≡ true → f (get_or t 0 0) ≡ false → Lost (One f) anything at t 0
  byte_lost t at b p q =
      record {
        inside = omega arith;
        viable = (b, b ∷ [], (refl, p));
        none = none' t q;
      }
    where
      none' : (t : List ℕ) → f (get_or t 0 0) ≡ false → (c : ℕ) (w z : List ℕ) → One f c at w → anything z → take (suc 0) (w ++ z) ≡ take (suc 0) t → ⊥
      none' [] q c w z l g e =
          let e' : take 1 ((c ∷ []) ++ z) ≡ [] = ap (λ (l : List ℕ). take 1 (l ++ z)) (sym l.0) ∙ e in
          let x : ◌≡◌ {A = ℕ} 0 1 = cc in omega arith
      none' (d ∷ t) q c w z l g e =
          let e' : take 1 ((c ∷ []) ++ z) ≡ d ∷ [] = ap (λ (l : List ℕ). take 1 (l ++ z)) (sym l.0) ∙ e in
          clash c d (cc) l.1 q

  pub byte_end : (t : List ℕ) (at b : ℕ) → f b ≡ true → length t ≤ 0 → Lost (One f) anything at t 0
  byte_end [] at b p h =
      record {
        inside = omega arith;
        viable = (b, b ∷ [], (refl, p));
        none =
            λ c w z l g e.
            let e' : take 1 ((c ∷ []) ++ z) ≡ [] = ap (λ (l : List ℕ). take 1 (l ++ z)) (sym l.0) ∙ e in
            let x : ◌≡◌ {A = ℕ} 0 1 = cc in omega arith;
      }
  byte_end (c ∷ t) at b p h = absurd (omega arith)

-- ---- the end

pub end_took : (t : List ℕ) (at : ℕ) → length t ≤ 0 → Took (λ (u : Unit {0}). these []) nothing at t 0 0
end_took [] at h =
    record {
      value = tt;
      word = [];
      rest = [];
      split = refl;
      size = refl;
      laid = refl;
      upto = omega arith;
      inside = omega arith;
      viable = (tt, [], refl);
      only = λ b w z l f e. (refl, l);
    }
end_took (c ∷ t) at h = absurd (omega arith)

pub end_lost : (t : List ℕ) (at : ℕ) → 0 < length t → Lost (λ (u : Unit {0}). these []) nothing at t 0
end_lost [] at h = absurd (omega arith)
end_lost (c ∷ t) at h =
    record {
      inside = omega arith;
      viable = (tt, [], refl);
      none =
          λ b w z l f e.
          let e' : [] ≡ c ∷ [] = sym (ap₂ (λ (a b : List ℕ). take 1 (a ++ b)) l f) ∙ e in
          let x : ◌≡◌ {A = ℕ} 0 1 = cc in omega arith;
    }

-- ---- a place in the rest is a place in the whole
pub at_drop : (s : List ℕ) (next at i : ℕ) → at ≡ next + i → get_or (drop next s) i 0 ≡ get_or s at 0
at_drop s next at i e = get_or-drop next s i 0 ∙ ap (λ (k : ℕ). get_or s k 0) (sym e)
