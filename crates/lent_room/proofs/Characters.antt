-- The first character of a written text, and a text as read character by character.
use Prim.Native.Nat.{ℕ, ◌+◌, ◌≤◌, ◌<◌}
use native.Mathlib.Nat.{add-zero}
use native.Mathlib.Omega.{arith}
use mathlib.Core.Path.{◌≡◌, refl, sym, ap, ◌∙◌, subst}
use mathlib.Core.Bool.{true, false, true≢false}
use mathlib.Core.List.{List, [], ◌∷◌, ◌++◌, append_assoc, append-nil}
use lib.ListN.{length, drop, get_or, length-drop, drop_of_length-le}
use lib.Seq.{drop-drop, get_or-drop}
use lib.Dec.{eqb}
use borrow.Author.Tests.{eq-eqb, ne_eqb}
use Rattle.paper.specs.Bytes.{spell, raw}
use Rattle.paper.proofs.Texts.{unspell, unspell_spell, spell_cases, spell_some}
use Rattle.std.specs.Prelude.{Ok, Err}
use Rattle.lent_room.specs.Room.{Laid, Lays, LaysRead}
use Rattle.lent_room.specs.declared.Stopped.{Stopped}
use Rattle.lent_room.specs.Spelled.{FirstCharacter}
use Rattle.lent_room.specs.declared.Pass.{Pass}
use Rattle.lent_room.proofs.Passes.{lays_none, lays_next, lays_off, lays_kept}

-- ---- one character

module _ (text : List ℕ) (at : ℕ) where
  by : {b n : ℕ} → unspell (drop at text) ≡ (b, drop n (drop at text)) → 1 ≤ n → FirstCharacter text at b (at + n)
  by {b} {n} e h =
      record {
        onward = omega (arith, h);
        says = λ c r d.
            let q : ◌≡◌ {A = ℕ × List ℕ} (b, drop n (drop at text)) (c, r) = sym e ∙ ap unspell d ∙ unspell_spell c r in
            (ap (λ (x : ℕ × List ℕ). x.0) q, sym (drop-drop n at text) ∙ ap (λ (x : ℕ × List ℕ). x.1) q);
      }

  at_is : (n : ℕ) → get_or (drop at text) n 0 ≡ get_or text (at + n) 0
  at_is n = get_or-drop at text n 0

  at_first : get_or (drop at text) 0 0 ≡ get_or text at 0
  at_first = at_is 0 ∙ ap (λ (k : ℕ). get_or text k 0) (add-zero at)

  pub first_plain : ¬ (get_or text at 0 ≡ 38) → FirstCharacter text at (get_or text at 0) (at + 1)
  first_plain n =
      by {n = 1} (rw (ne_eqb (get_or (drop at text) 0 0) 38 (λ e. n (sym at_first ∙ e))) (λ i. (at_first i, drop 1 (drop at text)))) (omega arith)

  module _ (amp : get_or text at 0 ≡ 38) where
    is_amp : eqb (get_or (drop at text) 0 0) 38 ≡ true
    is_amp = eq-eqb (get_or (drop at text) 0 0) 38 (at_first ∙ amp)

    -- an entity has four bytes or more
    pub first_short : length text < at + 4 → FirstCharacter text at (get_or text at 0) (at + 1)
    first_short h = record { onward = omega arith; says = λ c r d. absurd (long c r d) }
      where
        four : (c : ℕ) (r : List ℕ) → get_or (spell c ++ r) 0 0 ≡ 38 → 4 ≤ length (spell c ++ r)
        four c r =
            spell_cases (λ (b : ℕ) (w : List ℕ). get_or (w ++ r) 0 0 ≡ 38 → 4 ≤ length (w ++ r)) (λ e. omega arith) (λ e. omega arith) (λ e. omega arith) (λ e. omega arith) (λ e. omega arith)
            (λ b x y z u v e. absurd (not_amp b z e)) c
          where
            not_amp : (b : ℕ) → eqb b 38 ≡ false → b ≡ 38 → ⊥
            not_amp b z e = true≢false (sym (eq-eqb b 38 e) ∙ z)

        long : (c : ℕ) (r : List ℕ) → drop at text ≡ spell c ++ r → ⊥
        long c r d = omega (arith, h, length-drop at text, ap length d, four c r (sym (ap (λ (w : List ℕ). get_or w 0 0) d) ∙ at_first ∙ amp))

    -- of an entity the second byte tells which it is, and in two cases the third
    second : (n b : ℕ) → get_or text (at + n) 0 ≡ b → eqb (get_or (drop at text) n 0) b ≡ true
    second n b e = eq-eqb (get_or (drop at text) n 0) b (at_is n ∙ e)

    other : (n b : ℕ) → ¬ (get_or text (at + n) 0 ≡ b) → eqb (get_or (drop at text) n 0) b ≡ false
    other n b e = ne_eqb (get_or (drop at text) n 0) b (λ f. e (sym (at_is n) ∙ f))

    pub first_lt : get_or text (at + 1) 0 ≡ 108 → FirstCharacter text at 60 (at + 4)
    first_lt e = by {n = 4} (rw (is_amp, second 1 108 e) refl) (omega arith)

    module _ (l : ¬ (get_or text (at + 1) 0 ≡ 108)) where
      pub first_gt : get_or text (at + 1) 0 ≡ 103 → FirstCharacter text at 62 (at + 4)
      first_gt e = by {n = 4} (rw (is_amp, other 1 108 l, second 1 103 e) refl) (omega arith)

      module _ (g : ¬ (get_or text (at + 1) 0 ≡ 103)) where
        pub first_quot : get_or text (at + 1) 0 ≡ 113 → FirstCharacter text at 34 (at + 6)
        first_quot e = by {n = 6} (rw (is_amp, other 1 108 l, other 1 103 g, second 1 113 e) refl) (omega arith)

        module _ (q : ¬ (get_or text (at + 1) 0 ≡ 113)) where
          pub first_amp : get_or text (at + 2) 0 ≡ 109 → FirstCharacter text at 38 (at + 5)
          first_amp e = by {n = 5} (rw (is_amp, other 1 108 l, other 1 103 g, other 1 113 q, second 2 109 e) refl) (omega arith)

          pub first_apos : ¬ (get_or text (at + 2) 0 ≡ 109) → FirstCharacter text at 39 (at + 6)
          first_apos m = by {n = 6} (rw (is_amp, other 1 108 l, other 1 103 g, other 1 113 q, other 2 109 m) refl) (omega arith)

-- ---- a text

-- of the text v, the characters done are laid, and the others are written from i on
record Laying (given : List ℕ) (at : ℕ) (text room : List ℕ) (p : Pass) (i end : ℕ) (now v : List ℕ) : Type 0 where
  done : List ℕ
  others : List ℕ
  all : v ≡ done ++ others
  left : drop i text ≡ raw others
  laid : Lays given at done room p (Ok end) now

-- the loop's invariant
pub record Reading (given : List ℕ) (at : ℕ) (text room : List ℕ) (p : Pass) (i end : ℕ) (now : List ℕ) : Type 0 where
  pub kept : length now ≡ length room
  laying : (v : List ℕ) → text ≡ raw v → Laying given at text room p i end now v

pub reading_start : {given text room : List ℕ} {at : ℕ} (p : Pass) → Reading given at text room p 0 at room
reading_start p = record { kept = refl; laying = λ v e. record { done = []; others = v; all = refl; left = e; laid = lays_none p } }

module _ {given text room now : List ℕ} {at i end : ℕ} {p : Pass} (f : Reading given at text room p i end now) where
  pub reading_end : length text ≤ i → LaysRead given at text room p (Ok end) now
  reading_end h = record { kept = f.kept; says = λ v e. go v (f.laying v e) }
    where
      go : (v : List ℕ) → Laying given at text room p i end now v → Lays given at v room p (Ok end) now
      go v z = by_others z.others refl
        where
          by_others : (o : List ℕ) → z.others ≡ o → Lays given at v room p (Ok end) now
          by_others [] e = subst (λ (w : List ℕ). Lays given at w room p (Ok end) now) (sym (z.all ∙ ap (◌++◌ z.done) e ∙ append-nil z.done)) z.laid
          by_others (c ∷ o) e = absurd (spell_some c (raw o) (sym (ap raw e) ∙ sym z.left ∙ drop_of_length-le text {i = i} h))

  module _ {b next : ℕ} (h : i < length text) (c : FirstCharacter text i b next) where
    -- the next character of whichever text it is
    step : (v : List ℕ) (z : Laying given at text room p i end now v) → (o : List ℕ) × (z.others ≡ b ∷ o) × (drop next text ≡ raw o)
    step v z = go z.others refl
      where
        go : (o : List ℕ) → z.others ≡ o → (o : List ℕ) × (z.others ≡ b ∷ o) × (drop next text ≡ raw o)
        go [] e = absurd (omega (arith, h, length-drop i text, ap length (z.left ∙ ap raw e)))
        go (a ∷ o) e = let q = c.says a (raw o) (z.left ∙ ap raw e) in (o, e ∙ ap (λ (k : ℕ). k ∷ o) (sym q.0), q.1)

    -- whichever text it is
    more : {r : Laid} {after : List ℕ} → Lays given end (b ∷ []) now p r after → (v : List ℕ) (z : Laying given at text room p i end now v)
        → Lays given at (z.done ++ (b ∷ [])) room p r after
    more l v z = lays_next z.laid l

    behind : (v : List ℕ) (z : Laying given at text room p i end now v) → v ≡ z.done ++ (b ∷ []) ++ (step v z).0
    behind v z = z.all ∙ ap (◌++◌ z.done) (step v z).1 ∙ sym (append_assoc z.done (b ∷ []) (step v z).0)

    pub reading_off : {e : Stopped} {after : List ℕ} → Lays given end (b ∷ []) now p (Err e) after → LaysRead given at text room p (Err e) after
    reading_off {e} {after} l =
        record {
          kept = lays_kept l ∙ f.kept;
          says = λ v q.
              let z = f.laying v q in
              subst (λ (w : List ℕ). Lays given at w room p (Err e) after) (sym (behind v z)) (lays_off (step v z).0 (more l v z));
        }

    pub reading_on : {k : ℕ} {after : List ℕ} → Lays given end (b ∷ []) now p (Ok k) after → Reading given at text room p next k after
    reading_on l =
        record {
          kept = lays_kept l ∙ f.kept;
          laying = λ v e.
              let z = f.laying v e in
              record { done = z.done ++ (b ∷ []); others = (step v z).0; all = behind v z; left = (step v z).2; laid = more l v z };
        }
