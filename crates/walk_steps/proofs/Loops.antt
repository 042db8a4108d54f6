-- A loop over items: what is left of the list stands at the place that the loop has reached.
use Rattle.std.proofs.Common.{◌≡◌, ℕ, ◌<◌, ◌≤◌, Bool, true, false, List, [], ◌∷◌, ◌++◌, length, drop, sym, refl, subst, arith}
use Rattle.paper.specs.Bytes.{is_blank}
use Rattle.paper.specs.Form.{Form, each}
use Rattle.read_bytes.specs.Words.{There}
use Rattle.read_steps.specs.Follow.{Not, Starts, StandsBefore}
use Rattle.read_steps.proofs.Fronts.{Leads, leads_by, leads_long, whole, each_starts, starts_sharp}
use Rattle.walk_steps.specs.Stands.{Stands, tag_of, TellsTag, Over}
use Rattle.walk_steps.proofs.Places.{part, before, from, nothing_stands}
use Rattle.walk_steps.proofs.Elements.{tag_stands}

-- bytes that stand here, one at least, stand within s
pub there_inside : (b : ℕ) (x s : List ℕ) (at : ℕ) {q : Bool} → q ≡ true → There (b ∷ x) s at q → at < length s
there_inside b x s at h t = omega (arith, (t.yes h).inside)

-- the first item of a list, and the others behind it
pub record Item {A : Type 0} (F : A → Form) (s : List ℕ) (k : List A) (q e : ℕ) : Type 0 where
  pub item : A
  pub others : List A
  pub end : ℕ
  pub is : k ≡ item ∷ others
  pub here : Stands (F item) s q end
  pub behind : Stands (each F others) s end e
  pub follows : Not is_blank (drop end s)
  pub onward : q < end

-- fl are the words that may follow the list
module _ {A : Type 0} (name : List ℕ) (F : A → Form) (leads : (a : A) → Leads (tag_of name) (F a)) (fl : List (List ℕ)) {s : List ℕ} where
  -- where no item starts the list is at its end
  pub left_none : {q e : ℕ} {t : Bool} → t ≡ false → TellsTag name fl s q t → (k : List A) → Stands (each F k) s q e → (k ≡ []) × (q ≡ e)
  left_none h t [] d = (refl, nothing_stands d)
  left_none {q} h t (a ∷ k) d =
      let u = part (F a) (each F k) d in
      absurd (t.none h (tag_stands name (F a) (leads a) u.1))

  -- no blank stands where the list starts
  pub list_sharp : {q e : ℕ} → StandsBefore name fl → Starts fl (drop e s) → (k : List A) → Stands (each F k) s q e → Not is_blank (drop q s)
  list_sharp {q} {e} c fol k d =
      before (Not is_blank) d
      (starts_sharp is_blank (tag_of name ∷ fl) c.sharps (d.word ++ drop e s)
      (each_starts whole (tag_of name) F (leads_by (tag_of name) F leads) fl k q d.word (drop e s) d.laid fol))

  -- where one starts it is the first of the list
  pub left_some : {q e : ℕ} {t : Bool} → StandsBefore name fl → t ≡ true → TellsTag name fl s q t → Starts fl (drop e s)
      → (k : List A) → Stands (each F k) s q e → Item F s k q e
  left_some {q} {e} c h t fol [] d =
      absurd (t.other h (subst (λ (i : ℕ). Starts fl (drop i s)) (sym (nothing_stands d)) fol))
  left_some {q} {e} c h t fol (a ∷ k) d =
      let u = part (F a) (each F k) d in
      record {
        item = a;
        others = k;
        end = u.0;
        is = refl;
        here = u.1;
        behind = u.2;
        follows = list_sharp c fol k u.2;
        onward = omega (arith, u.1.size, leads_long 60 name (F a) (leads a) q u.1.word u.1.laid);
      }

-- what is left of whichever list stands at `first`
pub record Left {A : Type 0} (F : A → Form) (fl : List (List ℕ)) (s : List ℕ) (first at : ℕ) : Type 0 where
  pub is : (l : List A) (e : ℕ) → Stands (each F l) s first e → Starts fl (drop e s) → (k : List A) × Stands (each F k) s at e

module _ {A : Type 0} (name : List ℕ) (F : A → Form) (leads : (a : A) → Leads (tag_of name) (F a)) (fl : List (List ℕ)) (c : StandsBefore name fl) {s : List ℕ} {first at : ℕ} where
  pub over_next : {t : Bool} {n : ℕ} → t ≡ true → TellsTag name fl s at t → Left F fl s first at → Over F (Not is_blank) s at n → Left F fl s first n
  over_next h t w o =
      record {
        is =
            λ l e d fol.
            let k = w.is l e d fol in
            let i = left_some name F leads fl c h t fol k.0 k.1 in
            (i.others, from (o.is i.item i.end i.here i.follows) i.behind);
      }

  pub over_stuck : {t : Bool} {n : ℕ} → t ≡ true → TellsTag name fl s at t → Left F fl s first at → Over F (Not is_blank) s at n → n ≤ at
      → Over (each F) (Starts fl) s first at
  over_stuck h t w o stuck =
      record {
        is =
            λ l e d fol.
            let k = w.is l e d fol in
            let i = left_some name F leads fl c h t fol k.0 k.1 in
            absurd (omega (arith, stuck, i.onward, o.is i.item i.end i.here i.follows));
      }

  pub over_done : {t : Bool} → t ≡ false → TellsTag name fl s at t → Left F fl s first at → Over (each F) (Starts fl) s first at
  over_done h t w = record { is = λ l e d fol. let k = w.is l e d fol in (left_none name F leads fl h t k.0 k.1).1 }
