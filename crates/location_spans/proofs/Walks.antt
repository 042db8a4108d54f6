-- What `member`, `give`, `ahead` and `behind` do at each way that they end.
use Prim.Native.Nat.{ℕ, ◌+◌, ◌-◌, ◌≤◌, ◌<◌}
use Prim.Native.Char.{code}
use native.Mathlib.Omega.{arith}
use mathlib.Core.Path.{◌≡◌, refl, sym, ap, ◌∙◌, subst}
use mathlib.Core.Bool.{Bool, true, false, true≢false}
use mathlib.Core.Logic.{◌⊎◌, inl, inr}
use mathlib.Core.Option.{some-injective, none-ne-some}
use mathlib.Core.List.{List, [], ◌∷◌, ◌++◌, cons≢nil}
use lib.ListN.{length, get_or, drop, length-drop}
use lib.Dec.{ltb}
use borrow.Author.Tests.{ltb-false}
use Rattle.std.specs.Prelude.{Option, None, Some}
use Rattle.paper.specs.Bytes.{bytes, raw}
use Rattle.paper.specs.Locations.{Piece, piece_text, complement, is_wrong, first_of, last_of, span_of}
use Rattle.paper.specs.Locations as paper
use Rattle.paper.proofs.Locate.Rest.{piece_rest, complement_rest, same_piece, same_complement}
use Rattle.paper.proofs.Locate.Pieces.{Follow, Low, piece_low, piece_complete}
use Rattle.read_bytes.specs.Words.{There}
use Rattle.location_judge.specs.Places.{RestIs}
use Rattle.location_judge.specs.Readings.{Keeps, Pieces, wrong_of}
use Rattle.location_spans.specs.Walking.{Written, Ends, Ahead, Behind, Left, steps_left, step_within, Yields, Steps, span_is}
use Rattle.location_spans.specs.Walking as walking
use Rattle.location_spans.specs.Members.{Gives, MemberSays, Members, LastStart}
use Rattle.location_judge.specs.declared.pieces.Reach.{Reach}
use Rattle.location_judge.specs.declared.pieces.FoundPiece.{FoundPiece}
use Rattle.location_spans.specs.declared.walking.Walk.{Walk}
use Rattle.location_spans.specs.declared.walking.Walk.TheVariants as walk
use Rattle.location_spans.specs.declared.walking.NextSpan.{NextSpan}
use Rattle.location_judge.proofs.Stand.{begun, not_begun, room}
use Rattle.location_judge.proofs.Rule25.{keeps_wrong}
use Rattle.location_judge.proofs.Levels.{complement_stretch}
use Rattle.location_spans.proofs.Commas.{written_order, start_first, start_more}

-- ---- members

-- a segment or site that is written is read
reads_piece : {s : List ℕ} {at : ℕ} {c : Bool} (r : Option FoundPiece) → Pieces s at c r → (p : Piece) (v z : List ℕ) → piece_rest p v z → RestIs s at v → Follow z
    → MemberSays s c p z r
reads_piece None h p v z x st f = none-ne-some (p, z) (sym (h.says v st) ∙ piece_complete p v z x f)
reads_piece {s} {c = c} (Some y) h p v z x st f =
    let m = h.says v st in
    let q : ◌≡◌ {A = Piece × List ℕ} (m.value, m.rest) (p, z)
    = some-injective (m.value, m.rest) (p, z) (sym m.is ∙ piece_complete p v z x f) in
    let same = ap (λ (y : Piece × List ℕ). y.0) q in
    let left = ap (λ (y : Piece × List ℕ). y.1) q in
    (subst (λ (k : Piece). Keeps c k y.reach y.odd) same m.holds, subst (RestIs s y.end) left m.stands)

rest_of : (c : Bool) (p : Piece) (u z : List ℕ) → complement c (piece_text p) 0 u → complement_rest c (piece_rest p) (u ++ z) z
rest_of c p u z x = (same_complement c (same_piece p)).leaves 0 (u, refl, x)

-- a segment or site starts with no letter
pub low_letter : {w : List ℕ} → Low w → {a : ℕ} {v : List ℕ} → w ≡ a ∷ v → 63 ≤ a → ⊥
low_letter l e h = omega (arith, l.3, ap (λ (x : List ℕ). get_or x 0 0) (sym l.2 ∙ e))

module _ {s : List ℕ} {at : ℕ} {t : Bool} (word : There (raw (bytes "complement(")) s at t) where
  pub member_plain : t ≡ false → (r : Option FoundPiece) → Pieces s at false r → Members s at r
  member_plain e r h = record { within = h.within; says = says }
    where
      says : (c : Bool) (p : Piece) (u z : List ℕ) → complement c (piece_text p) 0 u → RestIs s at (u ++ z) → Follow z → MemberSays s c p z r
      says true p u z x st f = let y = rest_of true p u z x in absurd (not_begun (bytes "complement(") word st e y.0 y.1)
      says false p u z x st f = reads_piece r h p (u ++ z) z (rest_of false p u z x) st f

  module _ (e : t ≡ true) where
    -- what stands in the complement is read, and `)` is left
    inside : (r : Option FoundPiece) → Pieces s (at + 11) true r → (c : Bool) (p : Piece) (u z : List ℕ) → complement c (piece_text p) 0 u → RestIs s at (u ++ z)
        → (c ≡ true) × MemberSays s true p (code ")" ∷ z) r
    inside r h false p u z x st =
        let b = begun (bytes "complement(") word st e in
        absurd (low_letter (piece_low p (u ++ z) z (rest_of false p u z x)) b.1 (omega arith))
    inside r h true p u z x st =
        let b = begun (bytes "complement(") word st e in
        let y = rest_of true p u z x in
        let q : b.0 ≡ y.0 = ap (drop 11) (sym b.1 ∙ y.1) in
        let m = y.2 in
        let k : piece_rest p y.0 (code ")" ∷ z) = subst (piece_rest p y.0) m.2 m.1 in
        (refl, reads_piece r h p y.0 (code ")" ∷ z) k (subst (RestIs s (at + 11)) q b.2) (inr refl))

    pub member_no : Pieces s (at + 11) true None → Members s at None
    member_no h = record { within = tt; says = λ c p u z x st f. (inside None h c p u z x st).1 }

    module _ {y : FoundPiece} {u : Bool} (h : Pieces s (at + 11) true (Some y)) (bracket : There (raw (bytes ")")) s y.end u) where
      pub member_open : u ≡ false → Members s at None
      member_open b =
          record {
            within = tt;
            says = λ c p v z x st f.
                let m = inside (Some y) h c p v z x st in
                not_begun (bytes ")") bracket m.1.1 b z refl;
          }

      pub member_closed : u ≡ true → Members s at (Some (record { end = y.end + 1; reach = y.reach; odd = y.odd }))
      member_closed b =
          let i = h.within in
          record {
            within = (complement_stretch word e i.0 bracket b, i.1, i.2);
            says = λ c p v z x st f.
                let m = inside (Some y) h c p v z x st in
                let v = begun (bytes ")") bracket m.1.1 b in
                let q : v.0 ≡ z = ap (drop 1) (sym v.1) in
                (subst (λ (k : Bool). Keeps k p y.reach y.odd) (sym m.0) m.1.0, subst (RestIs s (y.end + 1)) q v.2);
          }

-- ---- a span is given

pub unwrong : (L x y m : ℕ) → wrong_of L x y m ≡ false → (x ≤ L) × (y ≤ L)
unwrong L x y m e = go (ltb L x) refl (ltb L y) refl
  where
    go : (a : Bool) → ltb L x ≡ a → (b : Bool) → ltb L y ≡ b → (x ≤ L) × (y ≤ L)
    go true p _ _ = absurd (true≢false (rw p at e))
    go false p true q = absurd (true≢false (rw (p, q) at e))
    go false p false q = (ltb-false L x p, ltb-false L y q)

module _ {L : ℕ} {a : Reach} {w : Walk} where
  yields_give : (s : List ℕ) (k : List paper.Span) {c odd : Bool} {p : Piece} → L < 4294967296 → Keeps c p a odd → is_wrong L p ≡ false
      → (r : Option NextSpan) → Gives L a w r → Left s L w k → Yields s L (span_of c p ∷ k) r
  yields_give s k l h q None g x = absurd (true≢false (sym g.says ∙ keeps_wrong L l h ∙ q))
  yields_give s k {c} {odd} {p} l h q (Some y) g x =
      let m = g.says in
      let first : first_of p ≡ a.first = omega (arith, h.first, m.2) in
      let last : last_of p ≡ a.last = omega (arith, h.last, m.3) in
      let same : span_of c p ≡ span_is y.span = (λ i. record { first = first i; last = last i; marks = sym h.marks i }) ∙ sym m.1 in
      (k, λ i. same i ∷ k, subst (λ (u : Walk). Left s L u k) (sym m.0) x)

  within_give : (size : ℕ) (v : Walk) (r : Option NextSpan) → 1 ≤ a.first → 1 ≤ a.last → steps_left size w < steps_left size v → Gives L a w r → step_within size L v r
  within_give size v None h k l g = tt
  within_give size v (Some x) h k l g =
      let m = g.says in
      let first : x.span.first ≡ a.first = ap (λ (y : paper.Span). y.first) m.1 in
      let last : x.span.last ≡ a.last = ap (λ (y : paper.Span). y.last) m.1 in (
        record {
          first_low = omega arith;
          first_high = omega (arith, m.2);
          last_low = omega arith;
          last_high = omega (arith, m.3);
        },
        subst (λ (y : Walk). steps_left size y < steps_left size v) (sym m.0) l,
      )

-- ---- forward

same_place : {s z : List ℕ} {i j : ℕ} → RestIs s i z → RestIs s j z → i ≡ j
same_place {s} {z} {i} {j} a b = omega (arith, a.inside, b.inside, ap length (a.is ∙ sym b.is), length-drop i s, length-drop j s)

not_ended : {z v : List ℕ} → Ends z → z ≡ code "," ∷ v → ⊥
not_ended {z = []} h e = cons≢nil (sym e)
not_ended {z = b ∷ z} h e = omega (arith, h, ap (λ (x : List ℕ). get_or x 0 0) e)

module _ {s : List ℕ} {L at : ℕ} where
  pub ahead_no : Members s at None → Steps s L (walk.Ahead at) None
  ahead_no h = record { within = tt; yields = λ l x. absurd (go x) }
    where
      go : {l : List paper.Span} → Ahead s L at l → ⊥
      go (walking.Ahead.last {c} {p} {z = z} w e) = h.says c p w.text z w.is w.from w.follow
      go (walking.Ahead.more {c} {p} {z = z} w x) = h.says c p w.text (code "," ∷ z) w.is w.from w.follow

  module _ (fits : L < 4294967296) {y : FoundPiece} {t : Bool} (h : Members s at (Some y)) (comma : There (raw (bytes ",")) s y.end t) where
    pub ahead_next : t ≡ true → (r : Option NextSpan) → Gives L y.reach (walk.Ahead (y.end + 1)) r → Steps s L (walk.Ahead at) r
    ahead_next b r g =
        let i = h.within in
        record {
          within = within_give (length s) (walk.Ahead at) r i.1 i.2 (omega (arith, i.0.onward, room (bytes ",") comma b)) g;
          yields = λ l x. go x;
        }
      where
        go : {l : List paper.Span} → Ahead s L at l → Yields s L l r
        go (walking.Ahead.last {c} {p} {z = z} w e) =
            let m = h.says c p w.text z w.is w.from w.follow in
            absurd (not_ended e (begun (bytes ",") comma m.1 b).1)
        go (walking.Ahead.more {c} {p} {z = z} {l} w x) =
            let m = h.says c p w.text (code "," ∷ z) w.is w.from w.follow in
            yields_give s l fits m.0 w.keeps r g (subst (λ (k : ℕ). Ahead s L (k + 1) l) (same_place w.to m.1) x)

    pub ahead_last : t ≡ false → (r : Option NextSpan) → Gives L y.reach walk.Done r → Steps s L (walk.Ahead at) r
    ahead_last b r g =
        let i = h.within in
        record { within = within_give (length s) (walk.Ahead at) r i.1 i.2 (omega (arith, i.0.onward, i.0.inside)) g; yields = λ l x. go x }
      where
        go : {l : List paper.Span} → Ahead s L at l → Yields s L l r
        go (walking.Ahead.last {c} {p} {z = z} w e) =
            let m = h.says c p w.text z w.is w.from w.follow in
            yields_give s [] fits m.0 w.keeps r g refl
        go (walking.Ahead.more {c} {p} {z = z} w x) =
            let m = h.says c p w.text (code "," ∷ z) w.is w.from w.follow in
            absurd (not_begun (bytes ",") comma m.1 b z refl)

-- ---- backward

-- the segment or site at i is the next of l, and what is left is none, or ends before the `,` at i - 1
record Back (s : List ℕ) (L low at i : ℕ) (l : List paper.Span) : Type 0 where
  piece : Piece
  rest : List ℕ
  written : Written s L false piece i at rest
  others : List paper.Span
  are : l ≡ span_of true piece ∷ others
  left : ((i ≡ low) × (others ≡ [])) ⊎ ((low < i) × Behind s L low (i - 1) others)

module _ {s : List ℕ} {L low at : ℕ} where
  behind_inside : {l : List paper.Span} → Behind s L low at l → (low ≤ at) × (at ≤ length s)
  behind_inside (walking.Behind.first w) = written_order w
  behind_inside (walking.Behind.more x h e w) = let o = written_order w in (omega (arith, o.0), o.1)

  pub behind_outside : (low ≤ at → at ≤ length s → ⊥) → Steps s L (walk.Behind low at) None
  behind_outside h = record { within = tt; yields = λ l x. let b = behind_inside x in absurd (h b.0 b.1) }

  module _ {i : ℕ} (h : LastStart s low at i) where
    back : {l : List paper.Span} → Behind s L low at l → Back s L low at i l
    back (walking.Behind.first {p} {z = z} w) =
        let e = start_first h w in
        record { piece = p; rest = z; written = subst (λ (n : ℕ). Written s L false p n at z) (sym e) w; others = []; are = refl; left = inl (e, refl) }
    back (walking.Behind.more {p} {i = j} {z = z} {l} x m e w) =
        let q = start_more h m e w in
        let d : j ≡ i - 1 = omega arith in
        record {
          piece = p;
          rest = z;
          written = subst (λ (n : ℕ). Written s L false p n at z) (sym q) w;
          others = l;
          are = refl;
          left = inr (omega arith, subst (λ (n : ℕ). Behind s L low n l) d x);
        }

    said : (r : Option FoundPiece) → Pieces s i true r → {l : List paper.Span} (b : Back s L low at i l) → MemberSays s true b.piece b.rest r
    said r k b =
        let w = b.written in
        reads_piece r k b.piece (w.text ++ b.rest) b.rest (rest_of false b.piece w.text b.rest w.is) w.from w.follow

    pub behind_no : Pieces s i true None → Steps s L (walk.Behind low at) None
    behind_no k = record { within = tt; yields = λ l x. absurd (said None k (back x)) }

    module _ (fits : L < 4294967296) {y : FoundPiece} (k : Pieces s i true (Some y)) where
      -- v is left, if it is what is left of the spans
      behind_by : (v : Walk) → steps_left (length s) v < steps_left (length s) (walk.Behind low at)
          → ((l : List paper.Span) (b : Back s L low at i l) → Left s L v b.others) → (r : Option NextSpan) → Gives L y.reach v r → Steps s L (walk.Behind low at) r
      behind_by v less left r g =
          record {
            within = within_give (length s) (walk.Behind low at) r k.within.1 k.within.2 less g;
            yields = λ l x.
                let b = back x in
                let m = said (Some y) k b in
                subst (λ (x : List paper.Span). Yields s L x r) (sym b.are)
                (yields_give s b.others fits m.0 b.written.keeps r g (left l b));
          }

      pub behind_last : i ≡ low → (r : Option NextSpan) → Gives L y.reach walk.Done r → Steps s L (walk.Behind low at) r
      behind_last e = behind_by walk.Done (omega (arith, h.before)) (λ l b. none_left b.left)
        where
          none_left : {l : List paper.Span} → ((i ≡ low) × (l ≡ [])) ⊎ ((low < i) × Behind s L low (i - 1) l) → l ≡ []
          none_left (inl q) = q.1
          none_left (inr q) = absurd (omega (arith, q.0))

      pub behind_more : (i ≡ low → ⊥) → (r : Option NextSpan) → Gives L y.reach (walk.Behind low (i - 1)) r → Steps s L (walk.Behind low at) r
      behind_more e = behind_by (walk.Behind low (i - 1)) (omega (arith, h.after, h.before)) (λ l b. some_left b.left)
        where
          some_left : {l : List paper.Span} → ((i ≡ low) × (l ≡ [])) ⊎ ((low < i) × Behind s L low (i - 1) l) → Behind s L low (i - 1) l
          some_left (inl q) = absurd (e q.0)
          some_left (inr q) = q.1

-- ---- a step, by the kind of its walk

pub step_done : {s : List ℕ} {L : ℕ} → Steps s L walk.Done None
step_done = record { within = tt; yields = λ l x. x }

pub step_by : {s : List ℕ} {L : ℕ} {w v : Walk} {r : Option NextSpan} → w ≡ v → Steps s L v r → Steps s L w r
step_by {s} {L} {w} {v} {r} e = subst (λ (u : Walk). Steps s L u r) (sym e)
