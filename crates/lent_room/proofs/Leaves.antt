-- Bytes stored and compared one by one.
use Prim.Native.Nat.{ℕ, suc, ◌+◌, ◌≤◌, ◌<◌}
use native.Mathlib.Numerals.{add-one}
use native.Mathlib.Omega.{arith}
use mathlib.Core.Path.{◌≡◌, refl, sym, ap, ◌∙◌, subst}
use mathlib.Core.List.{List, [], ◌∷◌, ◌++◌}
use lib.ListN.{length, take, drop, set, get_or, take-append-drop, drop_of_length-le}
use lib.Seq.{sets, take_all, take-suc, drop-cons, drop-drop, length-take-le}
use borrow.Author.Tests.{ne_eqb, eq-eqb}
use Rattle.paper.specs.Index.{agree}
use Rattle.std.specs.Prelude.{Ok}
use Rattle.lent_room.specs.Room.{stopped, Agrees, same, differs}
use Rattle.lent_room.proofs.Laws.{sets_append, agree_on}

-- one byte more of the text
pub sets_more : (text room : List ℕ) (at i : ℕ) → i < length text → set (sets room at (take i text)) (at + i) (get_or text i 0) ≡ sets room at (take (i + 1) text)
sets_more text room at i h =
    let l : length (take i text) ≡ i = length-take-le i text (omega (arith, h)) in
    let m : take (i + 1) text ≡ take i text ++ (get_or text i 0 ∷ []) = rw (add-one i) (take-suc text i 0 h) in
    rw m (ap (λ (k : ℕ). set (sets room at (take i text)) (at + k) (get_or text i 0)) (sym l) ∙ sets_append (take i text) (get_or text i 0 ∷ []) room at)

pub agrees_all : (x given : List ℕ) (at : ℕ) {i k : ℕ} → i ≡ length x → agree (take i x) (drop at given) ≡ i → k ≡ at + i → Agrees x at given (Ok k)
agrees_all x given at {i} e f q =
    let g : agree x (drop at given) ≡ length x = ap (λ (z : List ℕ). agree z (drop at given)) (sym (take_all i x (omega (arith, e)))) ∙ f ∙ e in
    subst (λ (e : ℕ). Agrees x at given (Ok e)) (omega (arith, e, q)) (same g)

module _ (x given : List ℕ) (at i : ℕ) (h : i < length x) (e : agree (take i x) (drop at given) ≡ i) where
  passed : length (take i x) ≡ i
  passed = length-take-le i x (omega (arith, h))

  -- the first i bytes are alike, and then comes y
  onward : (y : List ℕ) → agree (take i x ++ y) (drop at given) ≡ i + agree y (drop (at + i) given)
  onward y =
      agree_on (take i x) y (drop at given) (e ∙ sym passed)
      ∙ ap (λ (k : ℕ). k + agree y (drop k (drop at given))) passed
      ∙ ap (λ (z : List ℕ). i + agree y z) (drop-drop i at given)

  all_of : agree x (drop at given) ≡ i + agree (get_or x i 0 ∷ drop (suc i) x) (drop (at + i) given)
  all_of = ap (λ (z : List ℕ). agree z (drop at given)) (sym (take-append-drop i x) ∙ ap (λ (z : List ℕ). take i x ++ z) (drop-cons x i 0 h))
      ∙ onward (get_or x i 0 ∷ drop (suc i) x)

  stops : {k : ℕ} → k ≡ at + i → agree x (drop at given) ≡ i → Agrees x at given (stopped k)
  stops q z = subst (λ (e : ℕ). Agrees x at given (stopped e)) (omega (arith, q, z)) (differs (omega (arith, z, h)))

  pub agrees_end : {k : ℕ} → k ≡ at + i → length given ≤ k → Agrees x at given (stopped k)
  agrees_end q l =
      stops q
      (all_of ∙ ap (λ (z : List ℕ). i + agree (get_or x i 0 ∷ drop (suc i) x) z) (drop_of_length-le given {i = at + i} (omega (arith, l, q))) ∙ omega arith)

  module _ {k : ℕ} (q : k ≡ at + i) (l : k < length given) where
    here : drop (at + i) given ≡ get_or given k 0 ∷ drop (suc k) given
    here = ap (λ (j : ℕ). drop j given) (sym q) ∙ drop-cons given k 0 l

    pub agrees_other : ¬ (get_or given k 0 ≡ get_or x i 0) → Agrees x at given (stopped k)
    agrees_other n =
        stops q
        (all_of ∙ ap (λ (z : List ℕ). i + agree (get_or x i 0 ∷ drop (suc i) x) z) here ∙ rw (ne_eqb (get_or x i 0) (get_or given k 0) (λ f. n (sym f))) (omega arith))

    pub agrees_more : get_or given k 0 ≡ get_or x i 0 → agree (take (i + 1) x) (drop at given) ≡ i + 1
    agrees_more f =
        let m : take (i + 1) x ≡ take i x ++ (get_or x i 0 ∷ []) = rw (add-one i) (take-suc x i 0 h) in
        ap (λ (z : List ℕ). agree z (drop at given)) m
        ∙ onward (get_or x i 0 ∷ [])
        ∙ ap (λ (z : List ℕ). i + agree (get_or x i 0 ∷ []) z) here
        ∙ rw (eq-eqb (get_or x i 0) (get_or given k 0) (sym f)) refl
