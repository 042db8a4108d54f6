-- Locations: at each depth the model reads exactly the texts of those that its two flags allow.
use Prim.Native.Nat.{ℕ, zero, suc, ◌+◌, ◌≤◌}
use Prim.Native.Char.{code}
use mathlib.Core.Path.{◌≡◌, refl, sym, ap, ◌∙◌}
use mathlib.Core.Bool.{Bool, true, false, ◌&&◌, ◌||◌, not, cond, false≢true, true≢false, and-false, or-false}
use mathlib.Core.Logic.{◌↔◌, inl, inr}
use mathlib.Core.Option.{none, some}
use mathlib.Core.List.{List, [], ◌∷◌}
use native.Mathlib.Omega.{arith}
use lib.ListN.{length}
use lib.Dec.{eqb, leb}
use borrow.Author.Tests.{eqb-true, ne_eqb, leb-true, le-leb}
use Rattle.paper.specs.Bytes.{bytes}
use Rattle.paper.specs.Locations.{Piece, Member, Operator, Location, Operator.join, Operator.order, Location.one, Location.many}
use Rattle.paper.specs.Locations.{is_segment, operator_name, any, has_complement, mark}
use Rattle.paper.proofs.Locate.Rest.{Rest, lit_rest, ◌⨟◌, given_rest, bracketed, piece_rest, fitting_rest, list_rest, location_rest}
use Rattle.paper.proofs.Locate.Rest.{same_fitting, same_location, Ends, same_ends, ends_length, bracketed_map, list_map}
use Rattle.paper.proofs.Locate.Model.{Got, then, strip, behind, uncomplemented, member_of, turn}
use Rattle.paper.proofs.Locate.Model.{leaf, close, step, members, gather, within, read}
use Rattle.paper.proofs.Locate.Gives.{byte_is, Gives, gives_none, gives_some, gives_cond, gives_then, gives_behind}
use Rattle.paper.proofs.Locate.Pieces.{Follow, piece_sound, piece_complete, piece_low}

abbrev pub is_simple : Location → Bool
is_simple (one m) = is_segment m.piece
is_simple (many c op ms) = false

-- c: a complement may stand; l: a list or a site may. Of a member, Allowed c false is Fits (not c).
abbrev pub Allowed : Bool → Bool → Location → Type 0
Allowed c l t = ((l || is_simple t) ≡ true) × ((not c && has_complement t) ≡ false)

abbrev pub allowed_rest : Bool → Bool → Location → Rest
allowed_rest c l t = given_rest (Allowed c l t) (location_rest t)

abbrev pub Sound : Bool → Bool → (List ℕ → Got Location) → Type 0
Sound c l f = (w : List ℕ) → Gives (f w) (λ t. allowed_rest c l t w)

abbrev pub Complete : Bool → Bool → (List ℕ → Got Location) → Type 0
Complete c l f = (t : Location) (w r : List ℕ) → allowed_rest c l t w r → Follow r → f w ≡ some (t, r)

-- ---- a list fits in a complement where none of its members is complemented

abbrev any_complement : List Member → Bool
any_complement = any (λ (m : Member). m.complemented)

both_false : (k a b : Bool) → ((k && (a || b)) ≡ false) ↔ (((k && a) ≡ false) × ((k && b) ≡ false))
both_false false a b = (λ e. (refl, refl), λ e. refl)
both_false true true b = (λ e. (e, absurd (true≢false e)), λ e. e.0)
both_false true false b = (λ e. (refl, e), λ e. e.1)

uncomplemented_members : (k : Bool) (ms : List Member) (w r : List ℕ) → list_rest (fitting_rest k) ms w r → (k && any_complement ms) ≡ false
uncomplemented_members k [] w r x = absurd x
uncomplemented_members k (m ∷ []) w r x = (both_false k m.complemented false).1 (x.0.1, and-false k)
uncomplemented_members k (m ∷ n ∷ l) w r x =
    (both_false k m.complemented (any_complement (n ∷ l))).1 (x.1.0.1, uncomplemented_members k (n ∷ l) x.2.0 r x.2.2)

loosen : (k : Bool) (ms : List Member) (w r : List ℕ) → list_rest (fitting_rest k) ms w r → list_rest (fitting_rest false) ms w r
loosen k = list_map (λ m w r x. ((x.0.0, refl), x.1))

tighten : (k : Bool) (ms : List Member) (w r : List ℕ) → (k && any_complement ms) ≡ false → list_rest (fitting_rest false) ms w r
    → list_rest (fitting_rest k) ms w r
tighten k [] w r e x = absurd x
tighten k (m ∷ []) w r e x = ((x.0.0, ((both_false k m.complemented false).0 e).0), x.1)
tighten k (m ∷ n ∷ l) w r e x =
    let p = (both_false k m.complemented (any_complement (n ∷ l))).0 e in
    (x.0, ((x.1.0.0, p.0), x.1.1), (x.2.0, x.2.1, tighten k (n ∷ l) x.2.0 r p.1 x.2.2))

-- ---- what is read is written

leaf_sound : (c l : Bool) → Sound c l (leaf l)
leaf_sound c l w =
    gives_then (piece_sound w) (λ p r x. gives_cond (l || is_segment p) (λ e. gives_some ((e, and-false (not c)), x)) (λ _. gives_none))

-- members, and the `)` behind the last
abbrev Closed : Bool → List Member → Rest
Closed c ms = list_rest (fitting_rest (not c)) ms ⨟ lit_rest ")"

fitting : (c : Bool) (t : Location) (w r : List ℕ) → allowed_rest c false t w r → fitting_rest (not c) (member_of t) w r
fitting c (one m) w r x = x
fitting c (many k op ms) w r x = absurd (false≢true x.0.0)

cons : (c : Bool) (m : Member) (ms : List Member) (w z r : List ℕ) → fitting_rest (not c) m w (code "," ∷ z) → Closed c ms z r → Closed c (m ∷ ms) w r
cons c m [] w z r x y = absurd y.1
cons c m (n ∷ ms) w z r x y = (y.0, (code "," ∷ z, x, (z, refl, y.1)), y.2)

step_sound : (c : Bool) (g : List ℕ → Got (List Member)) → ((z : List ℕ) → Gives (g z) (λ ms. Closed c ms z))
    → (t : Location) (w z : List ℕ) → fitting_rest (not c) (member_of t) w z → Gives (step g t z) (λ ms. Closed c ms w)
step_sound c g h t w [] x = gives_none
step_sound c g h t w (b ∷ z) x =
    gives_cond (eqb b (code ","))
    (λ e. gives_then (h z) (λ ms r y. gives_some (cons c (member_of t) ms w z r (rw (eqb-true b (code ",") e) at x) y)))
    (λ _. gives_cond (eqb b (code ")")) (λ e. gives_some (b ∷ z, x, byte_is e)) (λ _. gives_none))

module _ (c : Bool) (f : List ℕ → Got Location) (sound : Sound c false f) where
  members_sound : (n : ℕ) (w : List ℕ) → Gives (members f n w) (λ ms. Closed c ms w)
  members_sound zero w = gives_none
  members_sound (suc n) w = gives_then (sound w) (λ t z x. step_sound c (members f n) (members_sound n) t w z (fitting c t w z x))

  -- u starts with the operator
  gather_sound : (l : Bool) → l ≡ true → (op : Operator) (u w : List ℕ) → lit_rest (operator_name op) u w
      → Gives (gather f op w) (λ t. allowed_rest c l t u)
  gather_sound l k op u w e =
      gives_then (members_sound (length w) w) (λ ms r x. gives_cond (leb 2 (length ms)) (λ h. gives_some (listed ms r h x)) (λ _. gives_none))
    where
      listed : (ms : List Member) (r : List ℕ) → leb 2 (length ms) ≡ true → Closed c ms w r → allowed_rest c l (many false op ms) u r
      listed ms r h x = (
        (rw k, uncomplemented_members (not c) ms w x.0 x.1),
        (w, e, (x.0, (leb-true 2 (length ms) h, loosen (not c) ms w x.0 x.1), x.2)),
      )

turn_rest : (l : Bool) (t : Location) (w r : List ℕ) → bracketed "complement(" (allowed_rest false l t) w r → allowed_rest true l (turn t) w r
turn_rest l (one m) w r x = let y = x.2.1 in ((y.0.0, refl), (x.0, x.1, (x.2.0, rw y.0.1 at y.1, x.2.2)))
turn_rest l (many true op ms) w r x = absurd (true≢false x.2.1.0.1)
turn_rest l (many false op ms) w r x =
    let a = x.2.1.0 in (
      (a.0, refl),
      bracketed_map "complement(" (λ w r y. bracketed_map (operator_name op) (λ w r z. (z.0, tighten true ms w r a.1 z.1)) w r y.1) w r x,
    )

-- u starts with `complement(`
close_sound : (l : Bool) (t : Location) (u w z : List ℕ) → lit_rest "complement(" u w → allowed_rest false l t w z
    → Gives (close t z) (λ s. allowed_rest true l s u)
close_sound l t u w [] e x = gives_none
close_sound l t u w (b ∷ z) e x =
    gives_cond (eqb b (code ")")) (λ q. gives_some (turn_rest l t u z (w, e, (b ∷ z, x, byte_is q)))) (λ _. gives_none)

level_sound : (c l : Bool) (fc fl : List ℕ → Got Location) → Sound false l fc → Sound c false fl → Sound c l (within fc fl c l)
level_sound c l fc fl soundc sound [] = gives_none
level_sound c l fc fl soundc sound (b ∷ w) =
    gives_cond (eqb b (code "c")) (λ _. gives_cond c complements (λ _. gives_none))
    (λ _. gives_cond (eqb b (code "j")) (λ _. lists join)
    (λ _. gives_cond (eqb b (code "o")) (λ _. lists order)
    (λ _. leaf_sound c l (b ∷ w))))
  where
    complements : c ≡ true → Gives (behind (strip (bytes "complement(") (b ∷ w)) (λ z. then (fc z) close)) (λ t. allowed_rest c l t (b ∷ w))
    complements k = rw k (gives_behind (bytes "complement(") (b ∷ w) (λ z e. gives_then (soundc z) (λ t m x. close_sound l t (b ∷ w) z m e x)))

    lists : (op : Operator) → Gives (cond l (behind (strip (bytes (operator_name op)) (b ∷ w)) (gather fl op)) none) (λ t. allowed_rest c l t (b ∷ w))
    lists op = gives_cond l (λ k. gives_behind (bytes (operator_name op)) (b ∷ w) (gather_sound c fl sound l k op (b ∷ w))) (λ _. gives_none)

pub read_sound : (d : ℕ) (c l : Bool) → Sound c l (read d c l)
read_sound zero c l = leaf_sound c l
read_sound (suc d) c l = level_sound c l (read d false l) (read d c false) (read_sound d false l) (read_sound d c false)

-- ---- what is written is read

-- a location is a piece, the complement of one with no complement, or a list: f reads each
abbrev ReadsPieces : Bool → (List ℕ → Got Location) → Type 0
ReadsPieces l f = (p : Piece) (w r : List ℕ) → (l || is_segment p) ≡ true → piece_rest p w r → Follow r → f w ≡ some (one (uncomplemented p), r)

abbrev ReadsComplements : Bool → (List ℕ → Got Location) → Type 0
ReadsComplements l f = (t : Location) (w r : List ℕ) → bracketed "complement(" (allowed_rest false l t) w r → f w ≡ some (turn t, r)

abbrev ReadsLists : Bool → (List ℕ → Got Location) → Type 0
ReadsLists c f =
    (op : Operator) (ms : List Member) (w r : List ℕ)
    → bracketed (operator_name op) (given_rest (2 ≤ length ms) (list_rest (fitting_rest (not c)) ms)) w r → f w ≡ some (many false op ms, r)

may_complement : (c : Bool) → (not c && true) ≡ false → c ≡ true
may_complement true e = refl
may_complement false e = sym e

complete_by : (c l : Bool) (f : List ℕ → Got Location) → ReadsPieces l f → (c ≡ true → ReadsComplements l f) → (l ≡ true → ReadsLists c f)
    → Complete c l f
complete_by c l f pieces complements lists (one m) w r x h = go m.complemented m.piece x
  where
    go : (k : Bool) (p : Piece) → allowed_rest c l (one (record { complemented = k; piece = p })) w r
        → f w ≡ some (one (record { complemented = k; piece = p }), r)
    go true p x =
        complements (may_complement c x.0.1) (one (uncomplemented p)) w r (bracketed_map "complement(" (λ w r y. ((x.0.0, refl), y)) w r x.1)
    go false p x = pieces p w r x.0.0 x.1 h
complete_by c l f pieces complements lists (many true op ms) w r x h =
    complements (may_complement c x.0.1) (many false op ms) w r
    (bracketed_map "complement(" (λ w r y. (
      (x.0.0, uncomplemented_members true ms y.0 y.2.0 y.2.1.1),
      bracketed_map (operator_name op) (λ w r z. (z.0, loosen true ms w r z.1)) w r y,
    )) w r x.1)
complete_by c l f pieces complements lists (many false op ms) w r x h =
    lists (sym (or-false l) ∙ x.0.0) op ms w r
    (bracketed_map (operator_name op) (λ w r y. (y.0, tighten (not c) ms w r x.0.1 y.1)) w r x.1)

leaf_pieces : (l : Bool) → ReadsPieces l (leaf l)
leaf_pieces l p w r e x f = rw (piece_complete p w r x f, e)

-- each member but the last has a `,` behind it
list_length : (k : Bool) (ms : List Member) (w r : List ℕ) → list_rest (fitting_rest k) ms w r → length ms + length r ≤ suc (length w)
list_length k [] w r x = absurd x
list_length k (m ∷ []) w r x = omega (arith, ends_length (same_ends (same_fitting k m) x))
list_length k (m ∷ n ∷ l) w r x =
    omega (arith, ends_length (same_ends (same_fitting k m) x.1), ap length x.2.1, list_length k (n ∷ l) x.2.0 r x.2.2)

module _ (c : Bool) (f : List ℕ → Got Location) (complete : Complete c false f) where
  members_complete : (ms : List Member) (n : ℕ) (w r : List ℕ) → length ms ≤ n → Closed c ms w r → members f n w ≡ some (ms, r)
  members_complete [] n w r h x = absurd x.1
  members_complete (m ∷ ms) zero w r h x = absurd (omega arith)
  members_complete (m ∷ []) (suc n) w r h x = rw (complete (one m) w x.0 x.1 (rw x.2 (inr refl)), x.2)
  members_complete (m ∷ k ∷ ms) (suc n) w r h x =
      let y = x.1 in
      let more = members_complete (k ∷ ms) n y.2.0 r (omega arith) (x.0, y.2.2, x.2) in
      rw (complete (one m) w y.0 y.1 (rw y.2.1 (inl refl)), y.2.1, more)

  gather_complete : (op : Operator) (ms : List Member) (w r : List ℕ) → 2 ≤ length ms → Closed c ms w r → gather f op w ≡ some (many false op ms, r)
  gather_complete op ms w r h x =
      let k = list_length (not c) ms w x.0 x.1 in
      rw (members_complete ms (length w) w r (omega (arith, ap length x.2)) x, le-leb 2 (length ms) h)

module _ (c l : Bool) (fc fl : List ℕ → Got Location) where
  level_pieces : ReadsPieces l (within fc fl c l)
  level_pieces p w r a x f =
      let h = piece_low p w r x in
      let e : within fc fl c l w ≡ leaf l w
      = rw (h.2, ne_eqb h.0 (code "c") (omega arith), ne_eqb h.0 (code "j") (omega arith), ne_eqb h.0 (code "o") (omega arith)) in
      rw e (leaf_pieces l p w r a x f)

  level_complements : Complete false l fc → c ≡ true → ReadsComplements l (within fc fl c l)
  level_complements complete k t w r x = rw (x.1, k, complete t x.0 x.2.0 x.2.1 (rw x.2.2 (inr refl)), x.2.2)

  level_lists : Complete c false fl → l ≡ true → ReadsLists c (within fc fl c l)
  level_lists complete k op ms w r x =
      named op x.1 (gather_complete c fl complete op ms x.0 r x.2.1.0 (x.2.0, x.2.1.1, x.2.2))
    where
      named : (o : Operator) → lit_rest (operator_name o) w x.0 → gather fl o x.0 ≡ some (many false o ms, r)
          → within fc fl c l w ≡ some (many false o ms, r)
      named join e g = rw (e, k, g)
      named order e g = rw (e, k, g)

  level_complete : (c ≡ true → Complete false l fc) → (l ≡ true → Complete c false fl) → Complete c l (within fc fl c l)
  level_complete inside member = complete_by c l (within fc fl c l) level_pieces (λ k. level_complements (inside k) k) (λ k. level_lists (member k) k)

flag : {c : Bool} → c ≡ true → mark c 1 ≡ 1
flag k = ap (λ (b : Bool). mark b 1) k

-- a depth for each flag that is set is enough
pub read_complete : (d : ℕ) (c l : Bool) → mark c 1 + mark l 1 ≤ d → Complete c l (read d c l)
read_complete zero c l h = complete_by c l (leaf l) (leaf_pieces l) (λ k. absurd (omega (arith, flag k))) (λ k. absurd (omega (arith, flag k)))
read_complete (suc d) c l h =
    level_complete c l (read d false l) (read d c false)
    (λ k. read_complete d false l (omega (arith, flag k)))
    (λ k. read_complete d c false (omega (arith, flag k)))

-- ---- what code is proved with

pub read_nil : (d : ℕ) (c l : Bool) → read d c l [] ≡ none
read_nil zero c l = refl
read_nil (suc d) c l = refl

pub read_ends : (d : ℕ) (c l : Bool) (w r : List ℕ) (t : Location) → read d c l w ≡ some (t, r) → Ends w r
read_ends d c l w r t e = same_ends (same_location t) ((read_sound d c l w).holds t r e).1

-- where no list may stand, one member is read
pub allowed_member : (c : Bool) (t : Location) → Allowed c false t → t ≡ one (member_of t)
allowed_member c (one m) a = refl
allowed_member c (many k op ms) a = absurd (false≢true a.0)
