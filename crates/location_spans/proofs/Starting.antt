-- The operator of a location and where the walk over it starts, by the words at its front, and what is left of it there.
use Prim.Native.Nat.{ℕ, ◌+◌, ◌-◌, ◌≤◌}
use Prim.Native.Char.{code}
use native.Mathlib.Omega.{arith}
use native.Mathlib.Nat.{add-zero}
use mathlib.Core.Path.{◌≡◌, refl, sym, ap, ◌∙◌, subst}
use mathlib.Core.Bool.{Bool, true, false, ◌||◌, true≢false}
use mathlib.Core.Logic.{inl, inr}
use mathlib.Core.List.{List, [], ◌∷◌, ◌++◌, map, reverse_aux}
use lib.ListN.{length, get_or, drop, length-drop}
use lib.Seq.{get_or-drop}
use Rattle.std.specs.Prelude.{None, Some}
use Rattle.paper.specs.Bytes.{bytes, raw}
use Rattle.paper.specs.Locations.{Piece, is_wrong, Member, Operator, join, order, operator_name, Location, one, many}
use Rattle.paper.specs.Locations.{any, breaks25, Span, span_of, member_span, spans, operator_number}
use Rattle.paper.proofs.Locate.Rest.{piece_rest, complement_rest, member_rest, fitting_rest, list_rest, location_rest, locates_rest, same_piece, same_complement}
use Rattle.paper.proofs.Locate.Pieces.{Follow, Low, piece_low}
use Rattle.read_bytes.specs.Words.{There}
use Rattle.location_judge.specs.Places.{RestIs}
use Rattle.location_judge.specs.Judging.{Spells}
use Rattle.location_judge.specs.Readings.{operator_of, number_of, operator_code, Lists}
use Rattle.location_spans.specs.Walking.{Written, Ahead, Behind, Left, Starts}
use Rattle.location_spans.specs.Walking as walking
use Rattle.location_judge.specs.declared.operators.Opening.{Opening}
use Rattle.location_spans.specs.declared.walking.Walk.TheVariants as walk
use Rattle.location_spans.specs.declared.walking.Started.{Started}
use Rattle.location_judge.proofs.Stand.{begun, not_begun, behind_text}
use Rattle.location_judge.proofs.Levels.{operator_number_lem}
use Rattle.location_judge.proofs.Verdicts.{whole}
use Rattle.location_spans.proofs.Commas.{written_order}
use Rattle.location_spans.proofs.Walks.{low_letter}

both_false : (a b : Bool) → (a || b) ≡ false → (a ≡ false) × (b ≡ false)
both_false true b e = absurd (true≢false e)
both_false false b e = (refl, e)

-- ---- the members that are left

-- rule 25 is kept by each
abbrev Right : ℕ → List Member → Type 0
Right L ms = any (λ (m : Member). is_wrong L m.piece) ms ≡ false

-- a member of a complemented list is not complemented
plain : (m : Member) (v z : List ℕ) → fitting_rest true m v z → piece_rest m.piece v z
plain m v z x = subst (λ (c : Bool). complement_rest c (piece_rest m.piece) v z) x.0.1 x.1

comma_there : {s : List ℕ} {j : ℕ} {z : List ℕ} → RestIs s j (code "," ∷ z) → get_or s j 0 ≡ code ","
comma_there {s} {j} st =
    ap (λ (n : ℕ). get_or s n 0) (sym (add-zero j)) ∙ sym (get_or-drop j s 0 0) ∙ ap (λ (l : List ℕ). get_or l 0 0) st.is

module _ {s : List ℕ} (L : ℕ) where
  written : (c : Bool) (p : Piece) {i : ℕ} (v z : List ℕ) → RestIs s i v → complement_rest c (piece_rest p) v z → Follow z → is_wrong L p ≡ false
      → (j : ℕ) × Written s L c p i j z
  written c p {i} v z st x f q =
      let y = (same_complement c (same_piece p)).before 0 x in
      let from : RestIs s i (y.0 ++ z) = subst (RestIs s i) y.1 st in
      (_, record { text = y.0; is = y.2; from = from; to = behind_text y.0 z from; follow = f; keeps = q })

  list_ahead : (ms : List Member) {i : ℕ} (v z : List ℕ) → RestIs s i v → list_rest (fitting_rest false) ms v (code ")" ∷ z) → Right L ms
      → Ahead s L i (map member_span ms)
  list_ahead [] v z st x q = absurd x
  list_ahead (m ∷ []) v z st x q =
      let w = written m.complemented m.piece v (code ")" ∷ z) st x.1 (inr refl) (both_false (is_wrong L m.piece) false q).0 in
      walking.Ahead.last w.1 refl
  list_ahead (m ∷ n ∷ ms) v z st x q =
      let r = both_false (is_wrong L m.piece) (any (λ (m : Member). is_wrong L m.piece) (n ∷ ms)) q in
      let y = x.2 in
      let t = subst (member_rest m v) y.1 x.1.1 in
      let w = written m.complemented m.piece v (code "," ∷ y.0) st t (inl refl) r.0 in
      walking.Ahead.more w.1 (list_ahead (n ∷ ms) y.0 z (behind_text (bytes ",") y.0 w.1.to) y.2 r.1)

  -- the spans l stand before a `,` at i, and the members ms behind it
  list_behind : {low : ℕ} (ms : List Member) (l : List Span) {i : ℕ} (v z : List ℕ) → Behind s L low i l → low ≤ i → get_or s i 0 ≡ code ","
      → RestIs s (i + 1) v → list_rest (fitting_rest true) ms v (code ")" ∷ z) → Right L ms
      → (j : ℕ) × RestIs s j (code ")" ∷ z) × Behind s L low j (reverse_aux (map (λ (m : Member). span_of true m.piece) ms) l)
  list_behind [] l v z b h e st x q = absurd x
  list_behind (m ∷ []) l v z b h e st x q =
      let w = written false m.piece v (code ")" ∷ z) st (plain m v (code ")" ∷ z) x) (inr refl) (both_false (is_wrong L m.piece) false q).0 in
      (w.0, w.1.to, walking.Behind.more b h e w.1)
  list_behind (m ∷ n ∷ ms) l v z b h e st x q =
      let r = both_false (is_wrong L m.piece) (any (λ (m : Member). is_wrong L m.piece) (n ∷ ms)) q in
      let y = x.2 in
      let t = subst (piece_rest m.piece v) y.1 (plain m v x.0 x.1) in
      let w = written false m.piece v (code "," ∷ y.0) st t (inl refl) r.0 in
      let o = written_order w.1 in
      list_behind (n ∷ ms) (span_of true m.piece ∷ l) y.0 z (walking.Behind.more b h e w.1) (omega arith)
      (comma_there w.1.to) (behind_text (bytes ",") y.0 w.1.to) y.2 r.1

  list_back : (ms : List Member) {low : ℕ} (v z : List ℕ) → RestIs s low v → list_rest (fitting_rest true) ms v (code ")" ∷ z) → Right L ms
      → (j : ℕ) × RestIs s j (code ")" ∷ z) × Behind s L low j (reverse_aux (map (λ (m : Member). span_of true m.piece) ms) [])
  list_back [] v z st x q = absurd x
  list_back (m ∷ []) v z st x q =
      let w = written false m.piece v (code ")" ∷ z) st (plain m v (code ")" ∷ z) x) (inr refl) (both_false (is_wrong L m.piece) false q).0 in
      (w.0, w.1.to, walking.Behind.first w.1)
  list_back (m ∷ n ∷ ms) v z st x q =
      let r = both_false (is_wrong L m.piece) (any (λ (m : Member). is_wrong L m.piece) (n ∷ ms)) q in
      let y = x.2 in
      let t = subst (piece_rest m.piece v) y.1 (plain m v x.0 x.1) in
      let w = written false m.piece v (code "," ∷ y.0) st t (inl refl) r.0 in
      list_behind (n ∷ ms) (span_of true m.piece ∷ []) y.0 z (walking.Behind.first w.1) (written_order w.1).0
      (comma_there w.1.to) (behind_text (bytes ",") y.0 w.1.to) y.2 r.1

  one_ahead : (m : Member) {w : List ℕ} → RestIs s 0 w → member_rest m w [] → Right L (m ∷ []) → Ahead s L 0 (member_span m ∷ [])
  one_ahead m {w} st x q =
      walking.Ahead.last (written m.complemented m.piece w [] st x tt (both_false (is_wrong L m.piece) false q).0).1 tt

-- ---- words at the front

heads : {a b : ℕ} {u v : List ℕ} → a ∷ u ≡ b ∷ v → a ≡ b
heads e = ap (λ (l : List ℕ). get_or l 0 0) e

complement_list : (o : Operator) (y z : List ℕ) → bytes "complement(" ++ y ≡ bytes (operator_name o) ++ z → ⊥
complement_list join y z e = let h : ◌≡◌ {A = ℕ} 99 106 = heads e in omega arith
complement_list order y z e = let h : ◌≡◌ {A = ℕ} 99 111 = heads e in omega arith

same_list : (o p : Operator) (y z : List ℕ) → bytes (operator_name o) ++ y ≡ bytes (operator_name p) ++ z → (o ≡ p) × (y ≡ z)
same_list join join y z e = (refl, ap (drop 5) e)
same_list order order y z e = (refl, ap (drop 6) e)
same_list join order y z e = absurd (let h : ◌≡◌ {A = ℕ} 106 111 = heads e in omega arith)
same_list order join y z e = absurd (let h : ◌≡◌ {A = ℕ} 111 106 = heads e in omega arith)

low_list : {w : List ℕ} → Low w → (o : Operator) (z : List ℕ) → w ≡ bytes (operator_name o) ++ z → ⊥
low_list l join z e = low_letter l e (omega arith)
low_list l order z e = low_letter l e (omega arith)

-- ---- the starts

-- r is the start of the location t
record StartIs (s : List ℕ) (t : Location) (r : Started) : Type 0 where
  operator : operator_code r.operator ≡ operator_number t
  walk : (L : ℕ) → breaks25 L t ≡ false → Left s L r.walk (spans t)

starts : {s : List ℕ} {r : Started} → ((w : List ℕ) (t : Location) → RestIs s 0 w → location_rest t w [] → StartIs s t r) → Starts s r
starts {s} {r} f = record { operator = λ t x. (tells x).operator; walk = λ L t x q. (tells x).walk L q }
  where
    tells : {t : Location} → Spells s t → StartIs s t r
    tells {t} x = f x.text t (whole x.written) (locates_rest x.located)

module _ {s : List ℕ} {t : Bool} (word : There (raw (bytes "complement(")) s 0 t) where
  module _ (a : t ≡ true) where
    -- what stands in the complement
    within : {w z : List ℕ} → RestIs s 0 w → w ≡ bytes "complement(" ++ z → RestIs s 11 z
    within {w} {z} st e = let b = begun (bytes "complement(") word st a in subst (RestIs s 11) (ap (drop 11) (sym b.1 ∙ e)) b.2

    no_list : {w : List ℕ} (z : List ℕ) (o : Operator) → RestIs s 0 w → w ≡ bytes (operator_name o) ++ z → ⊥
    no_list z o st e = let b = begun (bytes "complement(") word st a in complement_list o b.0 z (sym b.1 ∙ e)

    pub start_turned : Lists s 11 None → Starts s (record { operator = None; walk = walk.Ahead 0 })
    start_turned h = starts go
      where
        go : (w : List ℕ) (t : Location) → RestIs s 0 w → location_rest t w [] → StartIs s t (record { operator = None; walk = walk.Ahead 0 })
        go w (one m) st y = record { operator = refl; walk = λ L q. one_ahead L m st y q }
        go w (many true o ms) st y = let i = y.2.1 in absurd (h.says y.0 (within st y.1) o i.0 i.1)
        go w (many false o ms) st y = absurd (no_list y.0 o st y.1)

    pub start_back : {x : Opening} → Lists s 11 (Some x) → Starts s (record { operator = Some x.operator; walk = walk.Behind x.first (length s - 2) })
    start_back {x} h = starts go
      where
        single : {w : List ℕ} → RestIs s 0 w → (c : Bool) (p : Piece) → complement_rest c (piece_rest p) w [] → ⊥
        single st true p y = let k = h.says y.0 (within st y.1) in low_list (piece_low p y.0 y.2.0 y.2.1) (operator_of x.operator) k.0 k.1
        single {w} st false p y = low_letter (piece_low p w [] y) (begun (bytes "complement(") word st a).1 (omega arith)

        go : (w : List ℕ) (t : Location) → RestIs s 0 w → location_rest t w [] → StartIs s t (record { operator = Some x.operator; walk = walk.Behind x.first (length s - 2) })
        go w (one m) st y = absurd (single st m.complemented m.piece y)
        go w (many false o ms) st y = absurd (no_list y.0 o st y.1)
        go w (many true o ms) st y =
            let i = y.2.1 in
            let k = h.says y.0 (within st y.1) in
            let (e, v) = same_list (operator_of x.operator) o k.0 i.0 (sym k.1 ∙ i.1) in
            let d = i.2.2 ∙ ap (λ (z : List ℕ). code ")" ∷ z) y.2.2 in
            let u = subst (list_rest (fitting_rest true) ms i.0) d i.2.1.1 in
            record {
              operator = ap number_of e ∙ sym (operator_number_lem true o ms);
              walk = λ L q.
                  let b = list_back L ms i.0 (bytes ")") (subst (RestIs s x.first) v k.2) u q in
                  let n : b.0 ≡ length s - 2 = omega (arith, b.1.inside, ap length b.1.is, length-drop b.0 s) in
                  subst (λ (j : ℕ). Behind s L x.first j (spans (many true o ms))) n b.2;
            }

  module _ (a : t ≡ false) where
    pub start_plain : Lists s 0 None → Starts s (record { operator = None; walk = walk.Ahead 0 })
    start_plain h = starts go
      where
        go : (w : List ℕ) (t : Location) → RestIs s 0 w → location_rest t w [] → StartIs s t (record { operator = None; walk = walk.Ahead 0 })
        go w (one m) st y = record { operator = refl; walk = λ L q. one_ahead L m st y q }
        go w (many true o ms) st y = absurd (not_begun (bytes "complement(") word st a y.0 y.1)
        go w (many false o ms) st y = absurd (h.says w st o y.0 y.1)

    pub start_list : {x : Opening} → Lists s 0 (Some x) → Starts s (record { operator = Some x.operator; walk = walk.Ahead x.first })
    start_list {x} h = starts go
      where
        single : {w : List ℕ} → RestIs s 0 w → (c : Bool) (p : Piece) → complement_rest c (piece_rest p) w [] → ⊥
        single st true p y = not_begun (bytes "complement(") word st a y.0 y.1
        single {w} st false p y = let k = h.says w st in low_list (piece_low p w [] y) (operator_of x.operator) k.0 k.1

        go : (w : List ℕ) (t : Location) → RestIs s 0 w → location_rest t w [] → StartIs s t (record { operator = Some x.operator; walk = walk.Ahead x.first })
        go w (one m) st y = absurd (single st m.complemented m.piece y)
        go w (many true o ms) st y = absurd (not_begun (bytes "complement(") word st a y.0 y.1)
        go w (many false o ms) st y =
            let k = h.says w st in
            let (e, v) = same_list (operator_of x.operator) o k.0 y.0 (sym k.1 ∙ y.1) in
            let u = subst (list_rest (fitting_rest false) ms y.0) y.2.2 y.2.1.1 in
            record {
              operator = ap number_of e ∙ sym (operator_number_lem false o ms);
              walk = λ L q. list_ahead L ms y.0 [] (subst (RestIs s x.first) v k.2) u q;
            }
