-- Asking one chain more: what was asked stays, and there is room for each row once. Assumes nothing.
use mathlib.Core.Path.{◌≡◌, refl, sym, ap, ◌∙◌}
use mathlib.Core.Bool.{Bool, true, false, ◌&&◌}
use mathlib.Core.List.{List, ◌∷◌, ◌++◌}
use Prim.Native.Nat.{ℕ, zero, suc, ◌+◌, ◌-◌, ◌≤◌, ◌<◌}
use native.Mathlib.Omega.{arith}
use native.Mathlib.Decide.{dec_lt, ℕ_discrete}
use lib.Dec.{ltb, eqb}
use lib.ListN.{length, set, length-set}
use lib.Seq.{get_or-set_same, get_or-set_other}
use Rattle.std.proofs.lemmas.List.{set-append_left, set-append_right}
use borrow.Author.Tests.{lt-ltb, ltb-true, eq-eqb, eqb-true}
use Rattle.rows.specs.Rows.{tally, counted}
use Rattle.rows.proofs.Tests.{both_true, same_test, tally_true, tally_false, tally_same}
use Rattle.matching.specs.Asked.{chain, noted, path_chains, Asked, Member, Keep, Asks, after, Extends}

-- whether row y is among the first z
abbrev is_member : List ℕ → ℕ → ℕ → Bool
is_member ws z y = ltb (noted ws y) z && eqb (chain ws (noted ws y)) y

member_of : (ws : List ℕ) (z y : ℕ) → is_member ws z y ≡ true → Member ws z y
member_of ws z y t = let b = (both_true (ltb (noted ws y) z) (eqb (chain ws (noted ws y)) y)).0 t in (ltb-true _ _ b.0, eqb-true _ _ b.1)

member_to : (ws : List ℕ) (z y : ℕ) → Member ws z y → is_member ws z y ≡ true
member_to ws z y k = (both_true (ltb (noted ws y) z) (eqb (chain ws (noted ws y)) y)).1 (lt-ltb _ _ k.0, eq-eqb _ _ k.1)

not_member : (ws : List ℕ) (z y : ℕ) → (Member ws z y → ⊥) → is_member ws z y ≡ false
not_member ws z y n = go (is_member ws z y) refl
  where
    go : (b : Bool) → is_member ws z y ≡ b → b ≡ false
    go true t = absurd (n (member_of ws z y t))
    go false t = refl

-- two tests that differ at row x alone
tally_one : (p q : ℕ → Bool) (x n : ℕ) → 1 ≤ x → x ≤ n → p x ≡ false → q x ≡ true → ((u : ℕ) → (u ≡ x → ⊥) → p u ≡ q u) → tally q n ≡ suc (tally p n)
tally_one p q x zero a b f t s = absurd (omega arith)
tally_one p q x (suc n) a b f t s = go (ℕ_discrete (suc n) x) (tally_one p q x n a)
  where
    go : Dec (suc n ≡ x) → (x ≤ n → p x ≡ false → q x ≡ true → ((u : ℕ) → (u ≡ x → ⊥) → p u ≡ q u) → tally q n ≡ suc (tally p n))
        → tally q (suc n) ≡ suc (tally p (suc n))
    go (yes e) ih =
        tally_true q n (rw (← e) at t)
        ∙ ap suc (tally_same q p n (λ u c d. sym (s u (omega arith))) ∙ sym (tally_false p n (rw (← e) at f)))
    go (no e) ih = let h = ih (omega arith) f t s in step (p (suc n)) refl (sym (s (suc n) e)) h
      where
        step : (b : Bool) → p (suc n) ≡ b → q (suc n) ≡ p (suc n) → tally q n ≡ suc (tally p n) → tally q (suc n) ≡ suc (tally p (suc n))
        step true c d h = tally_true q n (d ∙ c) ∙ ap suc (h ∙ sym (tally_true p n c))
        step false c d h = tally_false q n (d ∙ c) ∙ h ∙ ap suc (sym (tally_false p n c))

tally_most : (p : ℕ → Bool) (n : ℕ) → tally p n ≤ n
tally_most p zero = omega arith
tally_most p (suc n) = go (p (suc n)) (tally_most p n)
  where
    go : (b : Bool) → tally p n ≤ n → counted b (tally p n) ≤ suc n
    go true h = omega arith
    go false h = omega arith

-- as many rows are among the first z as there are places
tally_asked : (m : ℕ) (ws : List ℕ) (z : ℕ) → Asked m ws z → tally (is_member ws z) m ≡ z
tally_asked m ws zero k = none m
  where
    none : (m : ℕ) → tally (is_member ws 0) m ≡ 0
    none zero = refl
    none (suc m) = tally_false (is_member ws 0) m (not_member ws 0 (suc m) (λ h. omega arith)) ∙ none m
tally_asked m ws (suc z) k =
    let r = k.rows z (omega arith) in
    let p = k.places z (omega arith) in
    tally_one (is_member ws z) (is_member ws (suc z)) (chain ws z) m r.0 r.1
    (not_member ws z (chain ws z) (λ h. omega arith))
    (member_to ws (suc z) (chain ws z) (omega arith, ap (chain ws) p))
    (λ u n. same_test (is_member ws z u) (is_member ws (suc z) u) (λ t. let h = member_of ws z u t in member_to ws (suc z) u (omega arith, h.1))
    (λ t. let h = member_of ws (suc z) u t in member_to ws z u (below u n h (dec_lt (noted ws u) z), h.1)))
    ∙ ap suc (tally_asked m ws z (record { size = k.size; rows = λ i h. k.rows i (omega arith); places = λ i h. k.places i (omega arith) }))
  where
    below : (u : ℕ) → (u ≡ chain ws z → ⊥) → Member ws (suc z) u → Dec (noted ws u < z) → noted ws u < z
    below u n h (yes l) = l
    below u n h (no l) = let e : noted ws u ≡ z = omega arith in absurd (n (sym h.1 ∙ ap (chain ws) e))

pub asked_few : (m : ℕ) (ws : List ℕ) (z : ℕ) → Asked m ws z → z ≤ m
asked_few m ws z k = omega (arith, tally_asked m ws z k, tally_most (is_member ws z) m)

-- a row that is not asked has room
pub asked_room : (m : ℕ) (ws : List ℕ) (z y : ℕ) → Asked m ws z → 1 ≤ y → y ≤ m → (Member ws z y → ⊥) → z < m
asked_room m ws z y k a b n =
    omega (
      arith,
      tally_asked m ws z k,
      tally_one (is_member ws z) (λ u. or_at u) y m a b (not_member ws z y n) (at_y (ℕ_discrete y y)) (λ u e. off u e (ℕ_discrete u y)),
      tally_most (λ u. or_at u) m,
    )
  where
    pick : {A : Type 0} → Dec A → Bool → Bool
    pick (yes a) b = true
    pick (no a) b = b

    or_at : ℕ → Bool
    or_at u = pick (ℕ_discrete u y) (is_member ws z u)

    at_y : (d : Dec (y ≡ y)) → pick d (is_member ws z y) ≡ true
    at_y (yes e) = refl
    at_y (no e) = absurd (e refl)

    off : (u : ℕ) → (u ≡ y → ⊥) → (d : Dec (u ≡ y)) → is_member ws z u ≡ pick d (is_member ws z u)
    off u n (yes e) = absurd (n e)
    off u n (no e) = refl

-- fewer chains
pub asked_fewer : (m : ℕ) (ws : List ℕ) (y z : ℕ) → y ≤ z → Asked m ws z → Asked m ws y
asked_fewer m ws y z h k = record { size = k.size; rows = λ i l. k.rows i (omega arith); places = λ i l. k.places i (omega arith) }

-- of fewer rows, of more
pub asked_more : (m n : ℕ) (ws : List ℕ) (z : ℕ) → m ≤ n → Asked m ws z → Asked n ws z
asked_more m n ws z h k = record { size = k.size; rows = λ i l. omega (arith, k.rows i l); places = k.places }

-- a new row y is asked at place z
module _ (ws : List ℕ) (z y : ℕ) (size : length ws ≡ 513) (low : z < 256) (one : 1 ≤ y) (high : y ≤ 256) where
  abbrev more : List ℕ
  more = set (set ws z y) (256 + y) z

  more_chain : (i : ℕ) → i < 256 → (i ≡ z → ⊥) → chain more i ≡ chain ws i
  more_chain i h n = get_or-set_other (set ws z y) (256 + y) i z 0 (λ e. omega arith) ∙ get_or-set_other ws z i y 0 n

  more_new : chain more z ≡ y
  more_new = get_or-set_other (set ws z y) (256 + y) z z 0 (λ e. omega arith) ∙ get_or-set_same ws z y 0 (omega arith)

  more_noted : noted more y ≡ z
  more_noted = get_or-set_same (set ws z y) (256 + y) z 0 (omega (arith, length-set ws z y))

  more_other : (u : ℕ) → (u ≡ y → ⊥) → noted more u ≡ noted ws u
  more_other u n = get_or-set_other (set ws z y) (256 + y) (256 + u) z 0 (λ e. n (omega arith)) ∙ get_or-set_other ws z (256 + u) y 0 (λ e. omega arith)

  pub asks_one : (Member ws z y → ⊥) → Asks ws z y more (suc z)
  asks_one new =
      record {
        least = omega arith;
        most = omega arith;
        keep = λ i h. more_chain i (omega arith) (λ e. omega arith);
        asked = λ m a b k. record { size = length-set (set ws z y) (256 + y) z ∙ length-set ws z y ∙ size; rows = λ i h. rows m b k i h (dec_lt i z); places = λ i h. places m k i h (dec_lt i z) };
        member = λ o. (omega (arith, more_noted), ap (chain more) more_noted ∙ more_new);
        path = more_other 0 (λ e. omega arith);
      }
    where
      rows : (m : ℕ) → y ≤ m → Asked m ws z → (i : ℕ) → i < suc z → Dec (i < z) → (1 ≤ chain more i) × (chain more i ≤ m)
      rows m b k i h (yes l) = rw (more_chain i (omega arith) (λ e. omega arith)) (k.rows i l)
      rows m b k i h (no l) = let e : i ≡ z = omega arith in rw (e, more_new) (one, b)

      places : (m : ℕ) → Asked m ws z → (i : ℕ) → i < suc z → Dec (i < z) → noted more (chain more i) ≡ i
      places m k i h (yes l) =
          let p = k.places i l in
          let old : Member ws z (chain ws i) = (omega arith, ap (chain ws) p) in
          rw (more_chain i (omega arith) (λ e. omega arith), more_other (chain ws i) (λ e. new (rw e at old))) p
      places m k i h (no l) = let e : i ≡ z = omega arith in rw (e, more_new) more_noted

-- the words of a list of rows, of how many make the path, and of the places: a new row y is stored at place z
pub stored : (rs : List ℕ) (p : ℕ) (ps : List ℕ) (z y : ℕ) → length rs ≡ 256 → z < 256 → 1 ≤ y
    → set (set (rs ++ p ∷ ps) z y) (256 + y) z ≡ set rs z y ++ p ∷ set ps (y - 1) z
stored rs p ps z y full low one =
    let e : 256 + y - 256 ≡ suc (y - 1) = omega arith in
    ap (λ (ws : List ℕ). set ws (256 + y) z) (set-append_left rs (p ∷ ps) z y (omega arith))
    ∙ rw e at (set-append_right (set rs z y) (p ∷ ps) 256 (256 + y) z (length-set rs z y ∙ full) (omega arith))

-- how many chains the path has is noted: what was asked stays
module _ (m : ℕ) (few : m ≤ 256) (ws : List ℕ) (z k : ℕ) (a : Asked m ws z) where
  pub path_keep : Keep ws (set ws 256 k) z
  path_keep i h = get_or-set_other ws 256 i k 0 (λ e. omega (arith, asked_few m ws z a))

  pub path_asked : Asked m (set ws 256 k) z
  path_asked =
      record {
        size = length-set ws 256 k ∙ a.size;
        rows = λ i h. rw (path_keep i h) (a.rows i h);
        places = λ i h. rw (path_keep i h) (get_or-set_other ws 256 (256 + chain ws i) k 0 (λ e. omega (arith, a.rows i h)) ∙ a.places i h);
      }

  pub path_noted : path_chains (set ws 256 k) ≡ k
  path_noted = get_or-set_same ws 256 k 0 (omega (arith, a.size))

-- who was asked stays asked
pub member_kept : (m : ℕ) (ws us : List ℕ) (z n y : ℕ) → z ≤ n → Keep ws us z → Asked m us n → Member ws z y → Member us n y
member_kept m ws us z n y l k a h =
    let e : chain us (noted ws y) ≡ y = k (noted ws y) h.0 ∙ h.1 in
    let p : noted us y ≡ noted ws y = ap (noted us) (sym e) ∙ a.places (noted ws y) (omega arith) in
    (omega arith, ap (chain us) p ∙ e)

-- corner by corner
module _ (shape ws room : List ℕ) (base q : ℕ) where
  pub extends_one : (k : ℕ) (us vs : List ℕ) (n p : ℕ) → Extends shape ws room base q k us n → Asks us n (after shape room (base + k)) vs p → Asked 256 vs p
      → Extends shape ws room base q (suc k) vs p
  extends_one k us vs n p x a t =
      record {
        least = omega (arith, x.least, a.least);
        most = omega (arith, x.most, a.most);
        keep = λ i h. a.keep i (omega (arith, x.least)) ∙ x.keep i h;
        asked = λ m b f s. a.asked m b (f k (omega arith)) (x.asked m b (λ i h. f i (omega arith)) s);
        member = λ i h o. member i h o (dec_lt i k);
        path = a.path ∙ x.path;
      }
    where
      member : (i : ℕ) → i < suc k → 1 ≤ after shape room (base + i) → Dec (i < k) → Member vs p (after shape room (base + i))
      member i h o (yes l) = member_kept 256 us vs n p (after shape room (base + i)) a.least a.keep t (x.member i l o)
      member i h o (no l) = let e : i ≡ k = omega arith in rw e (a.member (rw e at o))

-- what holds of the chains asked, and of row 0, holds of the chain after each corner
pub after_asked : {shape ws room us : List ℕ} {base q k n : ℕ} → Extends shape ws room base q k us n → (P : ℕ → Type 0) → ((j : ℕ) → j < n → P (chain us j)) → P 0
    → (i : ℕ) → i < k → P (after shape room (base + i))
after_asked {shape} {ws} {room} {us} {base} x P all none i l = go (ℕ_discrete (after shape room (base + i)) 0)
  where
    go : Dec (after shape room (base + i) ≡ 0) → P (after shape room (base + i))
    go (yes e) = rw e none
    go (no e) = let m = x.member i l (omega arith) in rw m.1 at (all (noted us (after shape room (base + i))) m.0)
