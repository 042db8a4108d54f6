-- Request 5: what its sentences ask of maker, checker and lookups, from their promises alone; and that two allowed answers are equal.
use Prim.Native.Nat.{ℕ, ◌/◌, ◌≤◌}
use native.Mathlib.Omega.{arith}
use mathlib.Core.Path.{◌≡◌, refl, sym, ap, ◌∙◌, subst}
use mathlib.Core.List.{List}
use Rattle.std.specs.Prelude.{Ok, Err}
use lib.ListN.{length, take}
use lib.Seq.{take_at}
use Rattle.paper.specs.Tree.{Listing}
use Rattle.paper.specs.Answers.{Outcome, give, Checked, Lent}
use Rattle.paper.specs.Index.{index_of, FindsIndex, IndexSays, ChecksIndex, IndexCheckSays}
use Rattle.paper.specs.Demands.{Request5}
use Rattle.paper.proofs.Inside.{laid_out}
use Rattle.paper.proofs.Index.{index_room, same_index}
use Rattle.paper.proofs.Refusals.{refusal_some, index_refused, index_check_refused}
use Rattle.paper.proofs.Once as once
use Rattle.read_layout.proofs.Wholes.{laid_once}
use Rattle.ask_answers.specs.Stretches.{LentAnswer, IndexVerdict}
use Rattle.ask_answers.specs.Given.{IndexGiven}
use Rattle.ask_answers.proofs.Once as given
use Rattle.ask_index.specs.Takes.{TakesIndex}
use Rattle.ask_index.proofs.Made.{index_belongs}

-- ---- two allowed answers are equal

pub index_once : {w out : List ℕ} {n p z m q j : ℕ} {x y : List ℕ} → IndexSays w out n p z x → IndexSays w out m q j y → (n ≡ m) × (p ≡ q) × (z ≡ j) × (x ≡ y)
index_once = once.index_once laid_once

pub index_check_once : {w x : List ℕ} {n p m q : ℕ} → IndexCheckSays w x n p → IndexCheckSays w x m q → (n ≡ m) × (p ≡ q)
index_check_once = once.index_check_once laid_once

-- the answers themselves
pub index_given_once : (w out : List ℕ) (x y : LentAnswer) (a b : List ℕ) → IndexGiven w out x a → IndexGiven w out y b → (x ≡ y) × (a ≡ b)
index_given_once w out = given.lent_given_once (IndexSays w out) (λ n p z m q j x y. index_once)

pub takes_index_once : (w x : List ℕ) (a b : IndexVerdict) → TakesIndex w x a → TakesIndex w x b → a ≡ b
takes_index_once w x (Ok a) (Ok b) f g = refl
takes_index_once w x (Ok a) (Err q) f g = absurd (refusal_some (index_check_refused g) (sym (index_check_once (index_belongs f) (IndexCheckSays.refused g)).0))
takes_index_once w x (Err r) (Ok b) f g = absurd (refusal_some (index_check_refused f) (index_check_once (IndexCheckSays.refused f) (index_belongs g)).0)
takes_index_once w x (Err r) (Err q) f g = let z = index_check_once (IndexCheckSays.refused f) (IndexCheckSays.refused g) in given.refusal_once z.0 z.1

-- ---- the request

-- what was written is the index
made_is : {w out after : List ℕ} {n p z : ℕ} → IndexSays w out n p z after → n ≡ 0 → (l : Listing ℕ) × Checked w (give l) × (take z after ≡ index_of l)
made_is {w} {out} {after} {n} {p} {z} i e = go i.outcome i.finds i.lent e
  where
    go : (o : Outcome (List ℕ)) → FindsIndex w o → {n p z : ℕ} {after : List ℕ} → Lent out o n p z after → n ≡ 0
        → (l : Listing ℕ) × Checked w (give l) × (take z after ≡ index_of l)
    go _ f Lent.refused e = absurd (refusal_some (index_refused f) e)
    go _ f (Lent.short h) e = absurd (omega (arith, e))
    go _ (FindsIndex.index {l} c) (Lent.written h) e = (l, c, take_at (index_of l) _ (length (index_of l)) refl)

taken_is : {w x : List ℕ} {n p : ℕ} → IndexCheckSays w x n p → n ≡ 0 → (l : Listing ℕ) × Checked w (give l) × (x ≡ index_of l)
taken_is (IndexCheckSays.refused c) e = absurd (refusal_some (index_check_refused c) e)
taken_is (IndexCheckSays.taken (ChecksIndex.belongs {l} c i)) e = (l, c, i)

-- a listing has one index
one_index : {w : List ℕ} {l m : Listing ℕ} → Checked w (give l) → Checked w (give m) → index_of l ≡ index_of m
one_index {l = l} {m} c d = ap (λ (x : Listing ℕ). index_of x) (laid_once l m (laid_out c) (laid_out d))

takes : {w x : List ℕ} {l : Listing ℕ} → Checked w (give l) → x ≡ index_of l → IndexCheckSays w x 0 0
takes c e = IndexCheckSays.taken (ChecksIndex.belongs c e)

room_enough : {w out after : List ℕ} {l : Listing ℕ} {n p z : ℕ} → Checked w (give l) → length w / 4 ≤ length out → IndexSays w out n p z after → n ≡ 0
room_enough {w} {out} {l = l} c h i =
    go (subst (λ (o : Outcome (List ℕ)). Lent out o _ _ _ _) (once.finds_index_once laid_once i.finds (FindsIndex.index c)) i.lent)
  where
    go : {n p z : ℕ} {after : List ℕ} → Lent out (give (index_of l)) n p z after → n ≡ 0
    go (Lent.short k) = absurd (omega (arith, h, k, index_room (laid_out c) c))
    go (Lent.written k) = refl

pub request5 : Request5
request5 =
    record {
      exactly = λ w x out after z i.
          let m = made_is i refl in
          (λ c. let t = taken_is c refl in t.2 ∙ one_index t.1 m.1 ∙ sym m.2, λ e. takes m.1 (e ∙ m.2));
      room = λ w out after l n p z c h i. room_enough c h i;
      sequence = λ w x c k n p d r. once.with_index_plain laid_once c;
      feature = λ w x c k j n p y out after. once.with_index_plain laid_once c;
      qualifier = λ w x c k j i n p a v b. once.with_index_plain laid_once c;
      translation = λ w x c k j n p z out after. once.with_index_plain laid_once c;
      translations = λ w x c k n p z out after. once.with_index_plain laid_once c;
      old = λ v w l m a b e. takes b (same_index l m e);
    }
