-- What one slot and one comparison tell of a text and a dictionary.
use Prim.Native.Nat.{ℕ, ◌+◌, ◌/◌, ◌%◌, ◌≤◌, ◌<◌}
use native.Mathlib.Omega.{arith}
use mathlib.Core.Path.{◌≡◌, sym, ap, ◌∙◌, subst}
use mathlib.Core.List.{List, [], ◌++◌}
use lib.ListN.{length, get_or, take, drop, take-append-drop}
use lib.Seq.{take-append_seam, drop-drop}
use Rattle.std.specs.Prelude.{Some, None}
use Rattle.std.proofs.lemmas.Option.{none-some, same_Some}
use Rattle.read_bytes.specs.Words.{StandsAt}
use Rattle.read_bytes.proofs.Words.{stands_long}
use Rattle.value_dictionary.specs.Texts.{byte_of, slot_of, entry_of, text_of, Dictionary, FindsText}

-- what is known of w where it is text k of a dictionary
record Stands (factor mask : ℕ) (t w : List ℕ) (k : ℕ) : Type 0 where
  long : 2 ≤ length w
  slot : byte_of t (slot_of factor mask w) ≡ k
  size : entry_of mask t k % 32 ≡ length w
  text : text_of mask t k ≡ w

stands : {factor mask : ℕ} {t w : List ℕ} {l : List (List ℕ)} → Dictionary factor mask l t
    → (k : ℕ) → k < length l → w ≡ get_or l k [] → Stands factor mask t w k
stands {factor} {mask} {t} {w} {l} d k h e =
    record {
      long = subst (λ (v : List ℕ). 2 ≤ length v) (sym e) (d.long k h);
      slot = subst (λ (v : List ℕ). byte_of t (slot_of factor mask v) ≡ k) (sym e) (d.slot k h);
      size = d.size k h ∙ ap length (sym e);
      text = d.text k h ∙ sym e;
    }

-- a text that is none of any dictionary's
none : {factor mask : ℕ} {t w : List ℕ} → ((k : ℕ) → ¬ Stands factor mask t w k) → FindsText factor mask t w None
none n =
    record {
      looks = λ l d.
          record {
            is = λ h. absurd (omega (arith, d.few));
            found = λ k h e. absurd (n k (stands d k h e));
          };
      below = λ l d k e. absurd (none-some k e);
    }

pub short : {factor mask : ℕ} {t w : List ℕ} → length w < 2 → FindsText factor mask t w None
short h = none (λ k x. omega (arith, x.long))

-- the number in w's slot, and the two bytes of that number
pub record Looked (factor mask : ℕ) (t w : List ℕ) (k entry : ℕ) : Type 0 where
  is : k ≡ byte_of t (slot_of factor mask w)
  under : slot_of factor mask w ≤ mask
  read : entry ≡ entry_of mask t k

pub looked : (factor mask : ℕ) (t w : List ℕ) {slot k entry : ℕ} → (slot ≡ slot_of factor mask w) × (slot ≤ mask) → k ≡ byte_of t slot
    → entry ≡ entry_of mask t k → Looked factor mask t w k entry
looked factor mask t w (e, h) is read =
    record {
      is = is ∙ ap (λ (i : ℕ). byte_of t i) e;
      under = subst (λ (i : ℕ). i ≤ mask) e h;
      read = read;
    }

module _ {factor mask : ℕ} {t w : List ℕ} {k entry : ℕ} (at : Looked factor mask t w k entry) where
  -- no other can be its own
  only : (Stands factor mask t w k → ⊥) → FindsText factor mask t w None
  only n = none (λ j x. n (subst (Stands factor mask t w) (sym x.slot ∙ sym at.is) x))

  pub other_size : ¬ (entry % 32 ≡ length w) → FindsText factor mask t w None
  other_size n = only (λ x. n (ap (λ (n : ℕ). n % 32) at.read ∙ x.size))

  module _ (size : entry % 32 ≡ length w) where
    -- the text of that number
    here : text_of mask t k ≡ take (length w) (drop (entry / 32) t)
    here = (λ i. take (sym at.read i % 32) (drop (sym at.read i / 32) t)) ∙ ap (λ (n : ℕ). take n (drop (entry / 32) t)) size

    differs : ¬ (take (length w) (drop (entry / 32) t) ≡ w) → FindsText factor mask t w None
    differs n = only (λ x. n (sym here ∙ x.text))

    same_text : take (length w) (drop (entry / 32) t) ≡ w → FindsText factor mask t w (Some k)
    same_text e =
        record {
          looks = λ l d. record { is = λ h. sym e ∙ sym here ∙ d.text k h; found = λ j h f. at.is ∙ (stands d j h f).slot };
          below = λ l d j e. subst (λ (n : ℕ). n < length l) (sym at.is ∙ same_Some k j e) (d.full (slot_of factor mask w) at.under);
        }

-- of a part of a table: whether the word stands in the table
module _ {factor mask : ℕ} (base : ℕ) (s : List ℕ) {w : List ℕ} {k entry : ℕ} (at : Looked factor mask (drop base s) w k entry) (size : entry % 32 ≡ length w) where
  pub stands_text : StandsAt w s (base + entry / 32) → FindsText factor mask (drop base s) w (Some k)
  stands_text x =
      same_text at size
      (ap (take (length w)) (drop-drop (entry / 32) base s ∙ x.here) ∙ take-append_seam w (drop (base + entry / 32 + length w) s))

  pub other_text : 2 ≤ length w → ¬ StandsAt w s (base + entry / 32) → FindsText factor mask (drop base s) w None
  other_text h n =
      differs at size
      (λ e.
      let t = drop (entry / 32) (drop base s) in
      let y = drop (length w) t in
      n (stands_long (omega (arith, h)) y (sym (drop-drop (entry / 32) base s) ∙ sym (take-append-drop (length w) t) ∙ ap (λ (x : List ℕ). x ++ y) e)))
