-- What the texts of a form start with: the side conditions of the laws of sequence, choice and repetition.
use Prim.Native.Nat.{ℕ, ◌<◌}
use native.Mathlib.Omega.{arith}
use mathlib.Core.Path.{◌≡◌, refl, sym, ap, ◌∙◌, subst}
use mathlib.Core.Bool.{Bool, true, false, ◌&&◌, ◌||◌, not, cond, and-eq-true_iff}
use mathlib.Core.Option.{Option, none, some}
use mathlib.Core.List.{List, [], ◌∷◌, ◌++◌, append_assoc, append-nil}
use lib.ListN.{length}
use lib.Dec.{eqb}
use borrow.Author.Tests.{eq-eqb, eqb-true}
use Rattle.paper.specs.Bytes.{all, is_blank}
use Rattle.paper.specs.Form.{Form, these, ◌·◌, maybe, each}
use Rattle.paper.specs.Layout.{gap}
use Rattle.read_steps.specs.Follow.{Not, NoBlankFirst, Starts, first, later, skip, clash, clashes, sharp}

pub false_true : false ≡ true → ⊥
false_true e = let z : ◌≡◌ {A = ℕ} 0 1 = cc in omega arith

-- ---- each text of F starts with the word k

abbrev pub Leads : List ℕ → Form → Type 0
Leads k F = (at : ℕ) (w : List ℕ) → F at w → (v : List ℕ) × (w ≡ k ++ v)

pub leads_these : (k x : List ℕ) → Leads k (these (k ++ x))
leads_these k x at w e = (x, e)

pub leads_all : (k : List ℕ) → Leads k (these k)
leads_all k at w e = ([], e ∙ sym (append-nil k))

pub leads_seq : (k : List ℕ) (F G : Form) → Leads k F → Leads k (F · G)
leads_seq k F G h at w d =
    let l = h at d.0 d.3 in
    (l.0 ++ d.1, d.2 ∙ ap (λ (u : List ℕ). u ++ d.1) l.1 ∙ append_assoc k l.0 d.1)

-- a shorter word
pub leads_less : (k x : List ℕ) (F : Form) → Leads (k ++ x) F → Leads k F
leads_less k x F h at w d = let l = h at w d in (x ++ l.0, l.1 ∙ append_assoc k x l.0)

-- ---- two words that differ at some place do not start one text

pub clash_apart : (x w z y : List ℕ) → clash x w ≡ true → x ++ z ≡ w ++ y → ⊥
clash_apart [] w z y p e = false_true p
clash_apart (a ∷ x) [] z y p e = false_true p
clash_apart (a ∷ x) (b ∷ w) z y p e =
    let h : a ≡ b = cc in
    clash_apart x w z y (same_head h p) (let k : x ++ z ≡ w ++ y = cc in k)
  where
    same_head : a ≡ b → cond (eqb a b) (clash x w) true ≡ true → clash x w ≡ true
    same_head h p = rw (eq-eqb a b h) at p

pub starts_apart : (x : List ℕ) (l : List (List ℕ)) (z y : List ℕ) → clashes x l ≡ true → z ≡ x ++ y → Starts l z → ⊥
starts_apart x [] z y p e x4 = elim x4 [ ]
starts_apart x (k ∷ l) z y p e (first v n) = clash_apart x k y v ((and-eq-true_iff (clash x k) (clashes x l)).0 p).0 (sym e ∙ n)
starts_apart x (k ∷ l) z y p e (later n) = starts_apart x l z y ((and-eq-true_iff (clash x k) (clashes x l)).0 p).1 e n

-- ---- what starts with one of these words starts with no byte of a class, or with one of those words

not_is : (b : Bool) → not b ≡ true → b ≡ false
not_is true e = sym e
not_is false e = refl

pub starts_sharp : (f : ℕ → Bool) (l : List (List ℕ)) → sharp f l ≡ true → (z : List ℕ) → Starts l z → Not f z
starts_sharp f [] p z n = elim n [ ]
starts_sharp f ([] ∷ l) p z n = absurd (false_true p)
starts_sharp f ((b ∷ k) ∷ l) p z (first v n) =
    subst (Not f) (sym n) (not_is (f b) ((and-eq-true_iff (not (f b)) (sharp f l)).0 p).0)
starts_sharp f ((b ∷ k) ∷ l) p z (later n) = starts_sharp f l ((and-eq-true_iff (not (f b)) (sharp f l)).0 p).1 z n

pub named_sharp : (x : List ℕ) → NoBlankFirst x → sharp is_blank (x ∷ []) ≡ true
named_sharp [] n = absurd n
named_sharp (b ∷ x) n = rw n

-- the word k starts with j
abbrev pub prefix : List ℕ → List ℕ → Bool
prefix [] k = true
prefix (a ∷ j) [] = false
prefix (a ∷ j) (b ∷ k) = eqb b a && prefix j k

prefix_is : (j k : List ℕ) → prefix j k ≡ true → (v : List ℕ) × (k ≡ j ++ v)
prefix_is [] k p = (k, refl)
prefix_is (a ∷ j) [] p = absurd (false_true p)
prefix_is (a ∷ j) (b ∷ k) p =
    let q = (and-eq-true_iff (eqb b a) (prefix j k)).0 p in
    let r = prefix_is j k q.1 in
    let h = eqb-true b a q.0 in
    (r.0, λ i. h i ∷ r.1 i)

-- some word of l is a beginning of k
abbrev pub begun : List (List ℕ) → List ℕ → Bool
begun [] k = false
begun (j ∷ l) k = prefix j k || begun l k

abbrev pub covers : List (List ℕ) → List (List ℕ) → Bool
covers l [] = true
covers l (k ∷ m) = begun l k && covers l m

begun_starts : (l : List (List ℕ)) (k y : List ℕ) → begun l k ≡ true → Starts l (k ++ y)
begun_starts [] k y p = absurd (false_true p)
begun_starts (j ∷ l) k y p = go (prefix j k) refl p (begun_starts l k y)
  where
    go : (t : Bool) → prefix j k ≡ t → (t || begun l k) ≡ true → (begun l k ≡ true → Starts l (k ++ y)) → Starts (j ∷ l) (k ++ y)
    go true e q n = let r = prefix_is j k e in first (r.0 ++ y) (ap (λ (u : List ℕ). u ++ y) r.1 ∙ append_assoc j r.0 y)
    go false e q n = later (n q)

-- fewer or longer words
pub starts_wider : (l m : List (List ℕ)) → covers l m ≡ true → (z : List ℕ) → Starts m z → Starts l z
starts_wider l [] p z x'' = elim x'' [ ]
starts_wider l (k ∷ m) p z (first v n) =
    subst (Starts l) (sym n) (begun_starts l k v ((and-eq-true_iff (begun l k) (covers l m)).0 p).0)
starts_wider l (k ∷ m) p z (later n) = starts_wider l m ((and-eq-true_iff (begun l k) (covers l m)).0 p).1 z n

-- a text that starts with k, and more
pub leads_starts : (k : List ℕ) (F : Form) → Leads k F → (at : ℕ) (w z : List ℕ) → F at w → Starts (k ∷ []) (w ++ z)
leads_starts k F h at w z d = let l = h at w d in first (l.0 ++ z) (ap (λ (u : List ℕ). u ++ z) l.1 ∙ append_assoc k l.0 z)

pub leads_sharp : (f : ℕ → Bool) (k : List ℕ) (F : Form) → sharp f (k ∷ []) ≡ true → Leads k F → (at : ℕ) (w z : List ℕ) → F at w → Not f (w ++ z)
leads_sharp f k F p h at w z d = starts_sharp f (k ∷ []) p (w ++ z) (leads_starts k F h at w z d)

-- ---- behind blanks

pub skip_blanks : (u z : List ℕ) → all is_blank u → skip (u ++ z) ≡ skip z
skip_blanks [] z a = refl
skip_blanks (b ∷ u) z a = rw a.0 (skip_blanks u z a.1)

pub skip_none : (z : List ℕ) → Not is_blank z → skip z ≡ z
skip_none [] n = refl
skip_none (b ∷ z) n = rw n

pub gap_blank : (at : ℕ) (w : List ℕ) → gap at w → all is_blank w
gap_blank at w d = subst (all is_blank) (sym (d.2 ∙ ap (λ (u : List ℕ). u ++ d.1) d.3.1)) (d.3.2, d.4)

pub skip_gap : (at : ℕ) (w z : List ℕ) → gap at w → skip (w ++ z) ≡ skip z
skip_gap at w z d = skip_blanks w z (gap_blank at w d)

-- ---- what may be missing, or repeated: M starts with k, seen by the view v (all of a text, or what is behind its blanks)

abbrev pub LeadsBy : {A : Type 0} → (List ℕ → List ℕ) → List ℕ → (A → Form) → Type 0
LeadsBy {A} v k M = (a : A) (at : ℕ) (w z : List ℕ) → M a at w → (y : List ℕ) × (v (w ++ z) ≡ k ++ y)

abbrev pub whole : List ℕ → List ℕ
whole z = z

pub leads_by : {A : Type 0} (k : List ℕ) (M : A → Form) → ((a : A) → Leads k (M a)) → LeadsBy whole k M
leads_by k M h a at w z d = let l = h a at w d in (l.0 ++ z, ap (λ (u : List ℕ). u ++ z) l.1 ∙ append_assoc k l.0 z)

abbrev pub StartsBy : (List ℕ → List ℕ) → List (List ℕ) → List ℕ → Type 0
StartsBy v l z = Starts l (v z)

module _ {A : Type 0} (v : List ℕ → List ℕ) (k : List ℕ) (M : A → Form) (lead : LeadsBy v k M) (l : List (List ℕ)) where
  pub first_starts : (a : A) (at : ℕ) (w z : List ℕ) → M a at w → StartsBy v (k ∷ l) (w ++ z)
  first_starts a at w z d = let b = lead a at w z d in first b.0 b.1

  pub maybe_starts : (o : Option A) (at : ℕ) (w z : List ℕ) → maybe M o at w → StartsBy v l z → StartsBy v (k ∷ l) (w ++ z)
  maybe_starts none at w z e n = later (subst (λ (u : List ℕ). StartsBy v l (u ++ z)) (sym e) n)
  maybe_starts (some a) at w z d n = first_starts a at w z d

  pub each_starts : (x : List A) (at : ℕ) (w z : List ℕ) → each M x at w → StartsBy v l z → StartsBy v (k ∷ l) (w ++ z)
  each_starts [] at w z e n = later (subst (λ (u : List ℕ). StartsBy v l (u ++ z)) (sym e) n)
  each_starts (a ∷ x) at w z d n =
      subst (StartsBy v (k ∷ l)) (sym (ap (λ (u : List ℕ). u ++ z) d.2 ∙ append_assoc d.0 d.1 z))
      (first_starts a at d.0 (d.1 ++ z) d.3)

  pub not_there : clashes k l ≡ true → (a : A) (at : ℕ) (w y : List ℕ) → M a at w → StartsBy v l (w ++ y) → ⊥
  not_there p a at w y d n = let b = lead a at w y d in starts_apart k l (v (w ++ y)) b.0 p b.1 n

-- a text that starts with a word is not empty
pub leads_long : (b : ℕ) (k : List ℕ) (F : Form) → Leads (b ∷ k) F → (at : ℕ) (w : List ℕ) → F at w → 0 < length w
leads_long b k F h at w d = let l = h at w d in omega (arith, ap length l.1)
