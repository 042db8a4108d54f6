-- The rule of the keys, from one test for the rows of each kind, which antt computes over the whole table.
use Prim.Native.Nat.{ℕ, zero, suc, ◌+◌, ◌*◌, ◌-◌, ◌/◌, ◌%◌, ◌^◌, ◌≤◌, ◌<◌}
use native.Mathlib.Omega.{arith}
use mathlib.Core.Path.{◌≡◌, refl, sym, ap, ◌∙◌, subst}
use mathlib.Core.Bool.{Bool, true, false, true≢false, cond}
use mathlib.Core.List.{List, [], ◌∷◌, ◌++◌, map, cons≢nil}
use mathlib.Core.Option.{Option, none, some, none-ne-some, some-injective}
use lib.ListN.{length, get_or, take, drop, length-map, get_or-map, get_or-append}
use lib.Seq.{get_or-take, get_or-drop}
use lib.Dec.{eqb, ltb}
use borrow.Author.Tests.{eqb-true, eqb-false}
use Rattle.paper.specs.Bytes.{raw, same}
use Rattle.paper.specs.Lists.{◌∈◌}
use Rattle.paper.specs.Vocabulary.{Row, counted}
use Rattle.paper.proofs.Tables.{all_from, each_at}
use Rattle.paper.proofs.Texts.{same_is, same_self}
use Rattle.value_dictionary.specs.Texts.{byte_of, pair_of, Dictionary}
use Rattle.value_vocabulary.specs.Tables.{name_texts, standing_of, needs_at, crumb_at, key_texts, RowFor, Keys}

-- ---- the rows of the keys

-- the row of a key
abbrev pub first_row : List Row → List ℕ → Option Row
first_row [] v = none
first_row (r ∷ l) v = cond (same v r.key) (some r) (first_row l v)

first_some : (l : List Row) (v : List ℕ) (r : Row) → first_row l v ≡ some r → r ∈ l × (v ≡ r.key)
first_some [] v r e = absurd (none-ne-some r e)
first_some (x ∷ l) v r e = go (same v x.key) refl e (λ h. first_some l v r h)
  where
    go : (b : Bool) → same v x.key ≡ b → cond b (some x) (first_row l v) ≡ some r → (first_row l v ≡ some r → r ∈ l × (v ≡ r.key)) → r ∈ (x ∷ l) × (v ≡ r.key)
    go true p q f = let e = some-injective x r q in ((0, sym e), same_is v x.key p ∙ ap (λ (r : Row). r.key) e)
    go false p q f = let y = f q in ((suc y.0.0, y.0.1), y.1)

first_none : (l : List Row) (v : List ℕ) → first_row l v ≡ none → (r : Row) → r ∈ l → ¬ (v ≡ r.key)
first_none [] v e r m h = m.1
first_none (x ∷ l) v e r m h = go (same v x.key) refl e m (λ q n. first_none l v q r n h)
  where
    go : (b : Bool) → same v x.key ≡ b → cond b (some x) (first_row l v) ≡ none → r ∈ (x ∷ l) → (first_row l v ≡ none → r ∈ l → ⊥) → ⊥
    go true p q n f = none-ne-some x (sym q)
    go false p q (zero, n) f = true≢false (sym (ap (same v) (sym (h ∙ ap (λ (r : Row). r.key) n)) ∙ same_self v) ∙ p)
    go false p q (suc i, n) f = f q (i, n)

-- four names for each byte, and those of every other byte turned round
abbrev pub crumbs_of : List ℕ → List ℕ
crumbs_of [] = []
crumbs_of (a ∷ []) = a % 4 ∷ a / 4 % 4 ∷ a / 16 % 4 ∷ a / 64 % 4 ∷ []
crumbs_of (a ∷ b ∷ l) =
    a % 4 ∷ a / 4 % 4 ∷ a / 16 % 4 ∷ a / 64 % 4 ∷ (3 - b % 4) ∷ (3 - b / 4 % 4) ∷ (3 - b / 16 % 4) ∷ (3 - b / 64 % 4) ∷ crumbs_of l

length_crumbs : (l : List ℕ) → length (crumbs_of l) ≡ 4 * length l
length_crumbs [] = refl
length_crumbs (a ∷ []) = refl
length_crumbs (a ∷ b ∷ l) = omega (arith, length_crumbs l)

abbrev turned : ℕ → ℕ → ℕ
turned j n = cond (ltb (j % 8) 4) n (3 - n)

abbrev crumb_in : List ℕ → ℕ → ℕ
crumb_in l j = turned j (get_or l (j / 4) 0 / 2 ^ (2 * (j % 4)) % 4)

first_crumb : (a : ℕ) → a % 4 ≡ a / 1 % 4
first_crumb a = ap (λ (n : ℕ). n % 4) (omega arith)

crumbs_at : (l : List ℕ) (j : ℕ) → j / 4 < length l → get_or (crumbs_of l) j 0 ≡ crumb_in l j
crumbs_at [] j h = absurd (omega (arith, h))
crumbs_at (a ∷ []) zero h = first_crumb a
crumbs_at (a ∷ []) (suc zero) h = refl
crumbs_at (a ∷ []) (suc (suc zero)) h = refl
crumbs_at (a ∷ []) (suc (suc (suc zero))) h = refl
crumbs_at (a ∷ []) (suc (suc (suc (suc j)))) h = absurd (omega (arith, h))
crumbs_at (a ∷ b ∷ l) zero h = first_crumb a
crumbs_at (a ∷ b ∷ l) (suc zero) h = refl
crumbs_at (a ∷ b ∷ l) (suc (suc zero)) h = refl
crumbs_at (a ∷ b ∷ l) (suc (suc (suc zero))) h = refl
crumbs_at (a ∷ b ∷ l) (suc (suc (suc (suc zero)))) h = ap (λ (n : ℕ). 3 - n) (first_crumb b)
crumbs_at (a ∷ b ∷ l) (suc (suc (suc (suc (suc zero))))) h = refl
crumbs_at (a ∷ b ∷ l) (suc (suc (suc (suc (suc (suc zero)))))) h = refl
crumbs_at (a ∷ b ∷ l) (suc (suc (suc (suc (suc (suc (suc zero))))))) h = refl
crumbs_at (a ∷ b ∷ l) (suc (suc (suc (suc (suc (suc (suc (suc j)))))))) h =
    let n : ℕ = suc (suc (suc (suc (suc (suc (suc (suc j))))))) in
    let d : n / 4 ≡ suc (suc (j / 4)) = omega arith in
    let m : n % 4 ≡ j % 4 = omega arith in
    let e : n % 8 ≡ j % 8 = omega arith in
    crumbs_at l j (omega (arith, h, d))
    ∙ (λ i. cond (ltb (sym e i) 4) (get_or (a ∷ b ∷ l) (sym d i) 0 / 2 ^ (2 * sym m i) % 4) (3 - get_or (a ∷ b ∷ l) (sym d i) 0 / 2 ^ (2 * sym m i) % 4))

crumb_here : (t : List ℕ) (row j : ℕ) → j < 85 → length (crumbs_of (take 22 (drop (row + 1) t))) ≡ 88
    → crumb_at t row j ≡ get_or (crumbs_of (take 22 (drop (row + 1) t))) j 0
crumb_here t row j h n =
    sym
    (crumbs_at (take 22 (drop (row + 1) t)) j (omega (arith, h, n, length_crumbs (take 22 (drop (row + 1) t))))
    ∙ ap (λ (x : ℕ). turned j (x / 2 ^ (2 * (j % 4)) % 4)) (get_or-take 22 (drop (row + 1) t) (j / 4) 0 (omega (arith, h)) ∙ get_or-drop (row + 1) t (j / 4) 0))

mapped : {A : Type 0} (f : A → ℕ) (l : List A) (j : ℕ) (d : A) → j < length l → get_or (map f l) j 0 ≡ f (get_or l j d)
mapped f [] j d h = absurd (omega (arith, h))
mapped f (x ∷ l) zero d h = refl
mapped f (x ∷ l) (suc j) d h = mapped f l j d (omega (arith, h))

name_here : (r : Row) (upper : Bool) (j : ℕ) → j < length name_texts
    → get_or (map (standing_of r) (map (counted upper) name_texts) ++ (0 ∷ 0 ∷ 0 ∷ [])) j 0 ≡ standing_of r (counted upper (get_or name_texts j []))
name_here r upper j h =
    let n = length-map name_texts (counted upper) in
    let m = length-map (map (counted upper) name_texts) (standing_of r) in
    get_or-append (map (standing_of r) (map (counted upper) name_texts)) (0 ∷ 0 ∷ 0 ∷ []) 0 j (subst (λ (k : ℕ). j < k) (sym (m ∙ n)) h)
    ∙ mapped (standing_of r) (map (counted upper) name_texts) j (counted upper []) (subst (λ (k : ℕ). j < k) (sym n) h)
    ∙ ap (standing_of r) (get_or-map (counted upper) name_texts j [])

wanted_length : (r : Row) (upper : Bool) → length (map (standing_of r) (map (counted upper) name_texts) ++ (0 ∷ 0 ∷ 0 ∷ [])) ≡ 88
wanted_length r upper = refl

-- a byte of the part from `from` on is one of the table
of_part : (t : List ℕ) (from row i : ℕ) → from ≤ row → byte_of (drop from t) (row - from + i) ≡ byte_of t (row + i)
of_part t from row i h = get_or-drop from t (row - from + i) 0 ∙ ap (byte_of t) (omega (arith, h))

-- what stands at the place of a row, nothing at 0; `rows` is what stands from `from` on, looked up once for all rows
abbrev pub row_shown : (rows : List ℕ) (from row : ℕ) → List ℕ
row_shown rows from row =
    cond (eqb row 0) [] ((from - row) ∷ (row - 65535) ∷ needs_at rows (row - from) ∷ crumbs_of (take 22 (drop (row - from + 1) rows)))

-- and what should stand there: the names, and three that are none
abbrev pub row_wanted : List (List ℕ) → Option Row → List ℕ
row_wanted names none = []
row_wanted names (some r) = 0 ∷ 0 ∷ length r.required ∷ (map (standing_of r) names ++ (0 ∷ 0 ∷ 0 ∷ []))

module _ (upper : Bool) (rows : List Row) (places from : ℕ) (part t : List ℕ) where
  abbrev pub row_right : List (List ℕ) → List ℕ → ℕ → List ℕ → Bool
  row_right names behind k v = same (row_shown behind from (pair_of part (places + 2 * k))) (row_wanted names (first_row rows (counted upper v)))

  abbrev pub rows_right : ℕ → List ℕ → Bool
  rows_right = row_right (map (counted upper) name_texts) (drop from t)

  row_for : (v : List ℕ) (row : ℕ) → row_shown (drop from t) from row ≡ row_wanted (map (counted upper) name_texts) (first_row rows (counted upper v)) → RowFor upper rows t v row
  row_for v row e = go (first_row rows (counted upper v)) refl (eqb row 0) refl e
    where
      x : ℕ
      x = row - from

      shown : List ℕ
      shown = crumbs_of (take 22 (drop (x + 1) (drop from t)))

      go : (o : Option Row) → first_row rows (counted upper v) ≡ o → (b : Bool) → eqb row 0 ≡ b
          → cond b [] ((from - row) ∷ (row - 65535) ∷ needs_at (drop from t) x ∷ shown) ≡ row_wanted (map (counted upper) name_texts) o → RowFor upper rows t v row
      go none p true q h = record { known = λ n. absurd (n (eqb-true row 0 q)); unknown = λ z r m. first_none rows (counted upper v) p r m }
      go none p false q h = absurd (cons≢nil h)
      go (some r) p true q h = absurd (cons≢nil (sym h))
      go (some r) p false q h =
          let is = first_some rows (counted upper v) r p in
          let behind : from - row ≡ 0 = ap (λ (x : List ℕ). get_or x 0 0) h in
          let inside : from ≤ row = omega (arith, behind) in
          let at : (i : ℕ) → byte_of (drop from t) (x + i) ≡ byte_of t (row + i) = λ i. of_part t from row i inside in
          record {
            known =
                λ n. (
                  r,
                  is.0,
                  is.1,
                  record {
                    near = let z : row - 65535 ≡ 0 = ap (λ (x : List ℕ). get_or x 1 0) h in omega (arith, z);
                    needs = ap (byte_of t) (omega arith) ∙ sym (at 0) ∙ ap (byte_of (drop from t)) (omega arith) ∙ ap (λ (x : List ℕ). get_or x 2 0) h;
                    stands =
                        λ j i.
                        let n : length shown ≡ 88 = ap (λ (x : List ℕ). length (drop 3 x)) h ∙ wanted_length r upper in
                        ap (λ (b : ℕ). turned j (b / 2 ^ (2 * (j % 4)) % 4))
                        (ap (byte_of t) (omega arith) ∙ sym (at (1 + j / 4)) ∙ ap (byte_of (drop from t)) (omega arith))
                        ∙ crumb_here (drop from t) x j i n ∙ ap (λ (x : List ℕ). get_or x (suc (suc (suc j))) 0) h ∙ name_here r upper j i;
                  },
                );
            unknown = λ z. absurd (eqb-false row 0 q z);
          }

  pub keys_right : (factor : ℕ) → Dictionary factor 127 (map raw (key_texts upper rows)) part → all_from rows_right 0 (key_texts upper rows) ≡ true → Keys upper rows factor places part t
  keys_right factor d test =
      record {
        texts = d;
        placed =
            λ k h.
            let v = get_or (key_texts upper rows) k [] in
            let row = pair_of part (places + 2 * k) in
            row_for v row
            (same_is (row_shown (drop from t) from row) (row_wanted (map (counted upper) name_texts) (first_row rows (counted upper v)))
            (each_at rows_right (key_texts upper rows) [] test k h));
      }
