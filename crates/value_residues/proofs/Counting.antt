-- How many characters begin with another byte than a given one, in the bytes from a place on.
use Rattle.std.proofs.Common.{◌≡◌, ℕ, ◌+◌, ◌-◌, ◌<◌, ◌≤◌, Bool, true, false, not, eqb, leb, List, [], ◌∷◌, ◌++◌, length, get_or, drop, sym, refl, ap, ◌∙◌, subst, arith, drop_of_length-le, eq-eqb, ne_eqb, eqb-true, le-leb}
use native.Mathlib.Decide.{dec_le}
use lib.Bits.{bit_or}
use borrow.Author.Tests.{eqb-false}
use Rattle.paper.specs.Bytes.{spell, raw}
use Rattle.paper.specs.Lists.{Count, end, has, lacks}
use Rattle.paper.proofs.Bits.{or_none}
use Rattle.paper.proofs.Texts.{spell_cases, raw_longer}
use Rattle.paper.proofs.Lists.{count_as, count_every}
use Rattle.read_bytes.specs.Numbers.{flag}
use Rattle.value_words.specs.Reading.{Tells}
use Rattle.value_words.proofs.Numbers.{suffix}
use Rattle.value_words.proofs.Tests.{told, tells_le}
use Rattle.value_residues.specs.Residues.{begun, NextCharacter, SameOf64, Passes, Others, Characters, HasDefined}

-- the byte that a character begins with
abbrev first : ℕ → ℕ
first b = get_or (spell b) 0 0

module _ (but : ℕ) where
  begun_one : (b : ℕ) (r : List ℕ) → begun but false (spell b ++ r) ≡ flag (not (eqb (first b) but)) + begun but false r
  begun_one b r =
      spell_cases (λ (c : ℕ) (w : List ℕ). begun but false (w ++ r) ≡ flag (not (eqb (get_or w 0 0) but)) + begun but false r)
      refl refl refl refl refl (λ c e f g h k. rw g refl) b

  abbrev Other : ℕ → Type 0
  Other b = ¬ (first b ≡ but)

  begun_raw : (v : List ℕ) → Count Other v (begun but false (raw v))
  begun_raw [] = end
  begun_raw (b ∷ v) = subst (Count Other (b ∷ v)) (sym (begun_one b (raw v))) (more (eqb (first b) but) refl (begun_raw v))
    where
      more : (t : Bool) → eqb (first b) but ≡ t → {n : ℕ} → Count Other v n → Count Other (b ∷ v) (flag (not t) + n)
      more true e {n} r = subst (Count Other (b ∷ v)) (omega arith) (lacks (λ o. o (eqb-true (first b) but e)) r)
      more false e {n} r = subst (Count Other (b ∷ v)) (omega arith) (has (eqb-false (first b) but e) r)

-- ---- to the next character

module _ (w : List ℕ) (at : ℕ) where
  -- a character of one byte
  pub one_byte : at < length w → ¬ (get_or w at 0 ≡ 38) → NextCharacter w at (at + 1)
  one_byte h n = record { onward = omega arith; within = omega (arith, h); same = λ but. rw (ne_eqb (get_or w at 0) 38 n) refl }

  -- an entity from `at` on goes on at i
  pub record InEntity (i : ℕ) : Type 0 where
    pub onward : at < i
    pub within : i ≤ length w
    pub same : (but : ℕ) → begun but (eqb (get_or w at 0) 38) (drop (at + 1) w) ≡ begun but true (drop i w)

  pub inside_first : at < length w → get_or w at 0 ≡ 38 → InEntity (at + 1)
  inside_first h e = record { onward = omega arith; within = omega (arith, h); same = λ but. rw (eq-eqb (get_or w at 0) 38 e) refl }

-- ---- some characters at once

-- the byte at i begins a character
begun_at : (w : List ℕ) (i but : ℕ) {j : ℕ} → i < length w → NextCharacter w i j → (t : Bool) → eqb (get_or w i 0) but ≡ t
    → begun but false (drop i w) ≡ flag (not t) + begun but false (drop j w)
begun_at w i but h y t e = ap (begun but false) (suffix w i h) ∙ (λ k. flag (not (e k)) + y.same but k)

pub flag_most : (t : Bool) → flag t ≤ 1
flag_most true = omega arith
flag_most false = omega arith

-- j of 64 bytes, so many of which are b; where `amp` is 0 no entity has begun
pub record Summed (w : List ℕ) (at b same amp j : ℕ) : Type 0 where
  pub end : j ≤ 64
  pub few : same ≤ j
  pub is : amp ≡ 0 → begun b false (drop at w) + same ≡ j + begun b false (drop (at + j) w)

module _ {w : List ℕ} {at b same amp j : ℕ} (s : Summed w at b same amp j) where
  pub summed_next : {x y : ℕ} → at + j < length w → j < 64 → x ≡ flag (eqb (get_or w (at + j) 0) b) → y ≡ flag (eqb (get_or w (at + j) 0) 38)
      → Summed w at b (same + x) (bit_or amp y) (j + 1)
  summed_next {x} {y} h l ex ey =
      record {
        end = omega (arith, l);
        few = omega (arith, s.few, ex, flag_most (eqb (get_or w (at + j) 0) b));
        is =
            λ z.
            let o = or_none amp y z in
            let n = no_flag (eqb (get_or w (at + j) 0) 38) (sym ey ∙ o.1) in
            let on = begun_at w (at + j) b h (one_byte w (at + j) h (eqb-false (get_or w (at + j) 0) 38 n)) (eqb (get_or w (at + j) 0) b) refl in
            let q : at + j + 1 ≡ at + (j + 1) = omega arith in
            omega (arith, s.is o.0, on, ex, either (eqb (get_or w (at + j) 0) b), ap (λ (k : ℕ). begun b false (drop k w)) q);
      }
    where
      either : (t : Bool) → flag (not t) + flag t ≡ 1
      either true = omega arith
      either false = omega arith

      no_flag : (t : Bool) → flag t ≡ 0 → t ≡ false
      no_flag true e = absurd (omega (arith, e))
      no_flag false e = refl

module _ {w : List ℕ} {at but : ℕ} where
  pub ahead_64 : {same : ℕ} → at + 64 ≤ length w → same ≤ 64 → SameOf64 w at but same → Passes w at but (record { count = 64 - same; next = at + 64 })
  ahead_64 h l s = record { onward = omega arith; within = h; each = omega (arith, l); is = omega (arith, l, s.is l) }

  module _ {next : ℕ} (h : at < length w) (y : NextCharacter w at next) where
    pub ahead_same : get_or w at 0 ≡ but → Passes w at but (record { count = 0; next = next })
    ahead_same e = record { onward = y.onward; within = y.within; each = omega (arith, y.onward); is = begun_at w at but h y true (eq-eqb (get_or w at 0) but e) }

    pub ahead_other : ¬ (get_or w at 0 ≡ but) → Passes w at but (record { count = 1; next = next })
    ahead_other o = record { onward = y.onward; within = y.within; each = omega (arith, y.onward); is = begun_at w at but h y false (ne_eqb (get_or w at 0) but o) }

-- ---- the loop

-- n of them begin before i, and the rest from i on
pub record Counting (w : List ℕ) (but n i : ℕ) : Type 0 where
  pub within : i ≤ length w
  pub few : n ≤ i
  pub in_all : n + begun but false (drop i w) ≡ begun but false w

module _ {w : List ℕ} {but n i : ℕ} (c : Counting w but n i) where
  counted : {most r : ℕ} → r ≤ most → (begun but false w ≤ most → r ≡ begun but false w) → (most ≤ begun but false w → r ≡ most) → Others w but most r
  counted l few many =
      record {
        within = l;
        says =
            λ v e.
            let k : begun but false w ≡ begun but false (raw v) = ap (begun but false) e in
            (begun but false (raw v), begun_raw but v, (λ l. few (omega (arith, l, k)) ∙ k), (λ l. many (omega (arith, l, k))));
      }

  pub counting_full : {most : ℕ} → most ≤ n → Others w but most most
  counting_full h = counted (omega arith) (λ l. omega (arith, l, h, c.in_all)) (λ l. refl)

  pub counting_done : {most : ℕ} → length w ≤ i → n < most → Others w but most n
  counting_done h l =
      let e : n ≡ begun but false w = omega (arith, c.in_all, ap (begun but false) (drop_of_length-le w h)) in
      counted (omega (arith, l)) (λ l. e) (λ m. omega (arith, m, e, l))

-- ---- all characters, and those that aren't the undefined one

pub each_character : {w : List ℕ} {r : ℕ} → Others w 60 (length w) r → Characters w r
each_character {w} {r} o =
    record {
      within = o.within;
      says =
          λ v e.
          let x = o.says v e in
          let n = count_every (λ (b : ℕ). ¬ (first b ≡ 60)) none_begins x.1 in
          omega (arith, n, x.2 (omega (arith, n, raw_longer v, ap length e)));
    }
  where
    none_begins : (b : ℕ) → ¬ (first b ≡ 60)
    none_begins =
        spell_cases (λ (c : ℕ) (w : List ℕ). ¬ (get_or w 0 0 ≡ 60)) (λ h. omega (arith, h)) (λ h. omega (arith, h)) (λ h. omega (arith, h)) (λ h. omega (arith, h)) (λ h. omega (arith, h))
        (λ b e f g h k. eqb-false b 60 e)

pub defined_told : {w : List ℕ} {undefined enough r : ℕ} → Others w undefined enough r → HasDefined w undefined enough (leb enough r)
defined_told {w} {undefined = u} {enough} {r} o =
    record {
      says =
          λ plain v e.
          let x = o.says v e in (
            x.0,
            count_as (λ (c : ℕ). ¬ (first c ≡ u)) (λ (c : ℕ). ¬ (c ≡ u)) (λ c n q. n (begins plain c q)) (λ c n q. n (is_it plain c q)) x.1,
            as_many (dec_le x.0 enough) x.2 x.3,
          );
    }
  where
    -- the undefined one alone begins with its byte
    begins : spell u ≡ u ∷ [] → (c : ℕ) → c ≡ u → first c ≡ u
    begins plain c q = ap first q ∙ ap (λ (z : List ℕ). get_or z 0 0) plain

    no_amp : spell u ≡ u ∷ [] → {A : Type 0} → 38 ≡ u → A
    no_amp plain q = absurd (omega (arith, ap length (subst (λ (z : ℕ). spell z ≡ z ∷ []) (sym q) plain)))

    is_it : spell u ≡ u ∷ [] → (c : ℕ) → first c ≡ u → c ≡ u
    is_it plain =
        spell_cases (λ (c : ℕ) (z : List ℕ). get_or z 0 0 ≡ u → c ≡ u) (no_amp plain) (no_amp plain) (no_amp plain) (no_amp plain) (no_amp plain)
        (λ c d f g h k q. q)

    as_many : {n : ℕ} → Dec (n ≤ enough) → (n ≤ enough → r ≡ n) → (enough ≤ n → r ≡ enough) → Tells (leb enough r) (enough ≤ n)
    as_many (yes h) few many = subst (λ (m : ℕ). Tells (leb enough r) (enough ≤ m)) (few h) (tells_le enough r)
    as_many (no h) few many = told (enough ≤ _) (sym (le-leb enough r (omega (arith, h, many (omega (arith, h)))))) (omega (arith, h))
