-- The index that is made, and the one that is taken, from what the walk laid.
use Prim.Native.Nat.{ℕ, ◌+◌, ◌*◌, ◌≤◌, ◌<◌}
use native.Mathlib.Omega.{arith}
use mathlib.Core.Path.{◌≡◌, sym, ap, ◌∙◌, subst, subst₂}
use Rattle.std.specs.Prelude.{Ok, Err}
use mathlib.Core.List.{List, []}
use lib.ListN.{length}
use Rattle.paper.specs.Answers.{limit, refuse, give, Checked, Lent}
use Rattle.paper.specs.Index.{index_of, agree, FindsIndex, IndexSays, ChecksIndex, IndexCheckSays}
use Rattle.paper.proofs.Inside.{within_limit, laid_out}
use Rattle.paper.proofs.Refusals.{refusal_some, index_refused}
use Rattle.paper.proofs.Sizes.{listing_room}
use Rattle.paper.proofs.Index.{length_in_bytes, index_size, index_room}
use Rattle.lent_room.specs.Room.{Laid, Agrees, same, differs}
use Rattle.lent_room.specs.declared.Stopped.{Stopped}
use Rattle.lent_room.specs.declared.Pass.{Pass}
use Rattle.lent_room.specs.declared.Pass.TheVariants.{Write, Compare}
use Rattle.lent_room.proofs.Laws.{sets_front, agree_self, agree_whole}
use Rattle.index_walk.specs.Bodies.{numbers_of, IndexLaid, LaysIndex}
use Rattle.ask_find.specs.Finds.{FirstIs}
use Rattle.ask_index.specs.Takes.{IndexOf}

-- the number of a refusal isn't 0
pub made_refused : {w out : List ℕ} {n p : ℕ} → Checked w (refuse n p) → (¬ (n ≡ 0)) × IndexSays w out n p 0 out
made_refused {n = n} {p} c =
    (refusal_some (index_refused (FindsIndex.own c)), record { outcome = refuse n p; finds = FindsIndex.own c; lent = Lent.refused })

module _ {w : List ℕ} {at total features : ℕ} (f : FirstIs w at total features) where
  -- the counts are small: each sequence and each feature takes some bytes
  pub few : (total ≤ limit) × (features ≤ limit)
  few =
      let r = listing_room (laid_out f.accepted) in
      let l = within_limit f.accepted in
      (omega (arith, f.totals, f.featured, r, l), omega (arith, f.totals, f.featured, r, l))

  abbrev x : List ℕ
  x = index_of f.listing

  size_is : length x ≡ 4 + 20 * total + 16 * features
  size_is = index_size f.accepted ∙ omega (arith, f.totals, f.featured)

  laid : {given room after : List ℕ} {r : Laid} {p : Pass} → LaysIndex p w at total (4 + 8 * total) given room r after → IndexLaid p x given room r after
  laid m =
      let e = index_room (laid_out f.accepted) f.accepted in
      m.says (within_limit f.accepted) f.listing.sequences f.end f.sequences f.closes f.totals (omega (arith, f.totals))
      (omega (arith, e, length_in_bytes (numbers_of f.listing.sequences), within_limit f.accepted))

  -- ---- made

  module _ {out : List ℕ} where
    pub made_short : length out < 4 + 20 * total + 16 * features → (¬ (◌≡◌ {A = ℕ} 34 0)) × IndexSays w out 34 0 0 out
    made_short h =
        (λ e. omega (arith, e), record { outcome = give x; finds = FindsIndex.index f.accepted; lent = Lent.short (omega (arith, h, size_is)) })

    pub made_whole : {after : List ℕ} {r : Laid} → 4 + 20 * total + 16 * features ≤ length out → LaysIndex Write w at total (4 + 8 * total) [] out r after
        → IndexSays w out 0 0 (4 + 20 * total + 16 * features) after
    made_whole {after} h m =
        let k : length x ≤ length out = omega (arith, h, size_is) in
        record {
          outcome = give x;
          finds = FindsIndex.index f.accepted;
          lent = subst₂ (Lent out (give x) 0 0) size_is (sym (laid m k ∙ sets_front x out k)) (Lent.written k);
        }

  -- ---- taken

  module _ {given room after : List ℕ} {r : Laid} (m : LaysIndex Compare w at total (4 + 8 * total) given room r after) where
    agrees : {y : Laid} → r ≡ y → Agrees x 0 given y
    agrees e = subst (Agrees x 0 given) e (laid m)

    other : ¬ (agree x given ≡ length x) → ¬ (given ≡ x)
    other n e = n (ap (agree x) e ∙ agree_self x)

    pub takes_none : {y : Stopped} → r ≡ Err y → ChecksIndex w given (refuse 50 y.at)
    takes_none e = go (agrees e)
      where
        go : {y : Stopped} → Agrees x 0 given (Err y) → ChecksIndex w given (refuse 50 y.at)
        go (differs l) =
            subst (λ (n : ℕ). ChecksIndex w given (refuse 50 n)) (omega arith) (ChecksIndex.differs f.accepted (other (λ e. omega (arith, e, l))))

    all_of : {end : ℕ} → r ≡ Ok end → (agree x given ≡ length x) × (end ≡ length x)
    all_of e = go (agrees e)
      where
        go : {end : ℕ} → Agrees x 0 given (Ok end) → (agree x given ≡ length x) × (end ≡ length x)
        go (same h) = (h, omega arith)

    pub takes_longer : {end : ℕ} → r ≡ Ok end → end < length given → ChecksIndex w given (refuse 50 end)
    takes_longer h l =
        let a = all_of h in
        subst (λ (n : ℕ). ChecksIndex w given (refuse 50 n)) (a.0 ∙ sym a.1)
        (ChecksIndex.differs f.accepted (λ e. omega (arith, ap length e, a.1, l)))

    pub takes_whole : {end : ℕ} → r ≡ Ok end → length given ≤ end → IndexOf w given
    takes_whole h l =
        let a = all_of h in
        record {
          listing = f.listing;
          accepted = f.accepted;
          is = agree_whole x given a.0 (omega (arith, l, a.1));
          first = at;
          end = f.end;
          sequences = f.sequences;
          closes = f.closes;
        }

-- the answer in numbers: no refusal
pub index_belongs : {w x : List ℕ} → IndexOf w x → IndexCheckSays w x 0 0
index_belongs i = IndexCheckSays.taken (ChecksIndex.belongs i.accepted i.is)
