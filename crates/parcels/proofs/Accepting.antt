-- What an accepted input holds: the facts behind an answer of rows. Assumes nothing.
use Rattle.std.proofs.Common.{◌≡◌, ℕ, ◌+◌, ◌*◌, ◌≤◌, Bool, true, false, List, Result, Ok, Err, length, drop, sym, refl, ap, ◌∙◌, arith, le-leb}
use native.Mathlib.Decide.{dec_le}
use borrow.Author.Tests.{lt-leb}
use Rattle.rows.specs.Limits.{listing_rows}
use Rattle.parcels.specs.Numbers.{number}
use Rattle.parcels.specs.Read.{most_rows, after, section_of, followed, given, claim_of, Claim, sums_agree, agreed_of, room_of, read_of}
use Rattle.parcels.specs.declared.Limit.{Limit}
use Rattle.parcels.specs.declared.Limit.TheVariants.{Recipe, Listing}
use Rattle.parcels.specs.declared.Refusal.{Refusal}
use Rattle.parcels.specs.declared.Refusal.TheVariants.{FirstCount, SecondCount, ThirdCount}
use Rattle.parcels.specs.declared.Rows.{Rows}
use Rattle.parcels.specs.declared.judge.Whole.{Whole}
use Rattle.parcels.proofs.Judging.{Found, found, found_whole}

-- no limit is over a listing's
pub most_small : (limit : Limit) → most_rows limit ≤ listing_rows
most_small Recipe = omega arith
most_small Listing = omega arith

-- three counts that agree, and all the bytes that they ask for
pub record Claimed (bytes : List ℕ) (start most n next : ℕ) : Type 0 where
  pub first : number 4 (drop start bytes) ≡ n
  pub high : n ≤ most
  pub second : number 4 (drop (after start 4 n) bytes) ≡ n
  pub third : number 4 (drop (after (after start 4 n) 2 n) bytes) ≡ 2
  pub place : next ≡ start + (20 + 6 * n)
  pub within : next ≤ length bytes

refused_rows : {r : Refusal} {n next : ℕ} → Err r ≡ given n next → ⊥
refused_rows e = let z : ◌≡◌ {A = ℕ} 0 1 = cc in omega arith

-- the same rows are as many, with the same place after them
pub given_same : {m place n next : ℕ} → given m place ≡ given n next → (m ≡ n) × (place ≡ next)
given_same {m = m} {place = place} {n = n} {next = next} e =
    let same : ◌≡◌ {A = Rows} (record { count = m; next = place }) (record { count = n; next = next }) = cc in
    (ap (λ (r : Rows). r.count) same, ap (λ (r : Rows). r.next) same)

module _ (bytes : List ℕ) (start most : ℕ) where
  pub claimed : (n next : ℕ) → claim_of bytes start most ≡ given n next → Claimed bytes start most n next
  unfolding claim_of
  claimed n next e = one (section_of bytes start 0 most 4 (FirstCount start)) refl
    where
      three : (m second k third : ℕ) → Found bytes start 0 most 4 m second → Found bytes second m m 2 k third
          → (l : Result Whole Refusal) → section_of bytes third 2 2 4 (ThirdCount third) ≡ l
          → followed l (λ _ next. given m next) ≡ given n next → Claimed bytes start most n next
      three m second k third f g (Err _) h d = absurd (refused_rows d)
      three m second k third f g (Ok sums) h d =
          let place = sums.next in
          let t = found bytes third 2 2 4 _ sums.count place h in
          let same = given_same d in
          let mn = same.0 in
          let pn = same.1 in
          let km : k ≡ n = omega arith in
          let s : second ≡ after start 4 n = f.place ∙ ap (after start 4) mn in
          let u : third ≡ after (after start 4 n) 2 n = g.place ∙ rw (s, km) in
          record {
            first = sym f.value ∙ mn;
            high = omega arith;
            second = ap (λ (i : ℕ). number 4 (drop i bytes)) (sym s) ∙ sym g.value ∙ km;
            third = ap (λ (i : ℕ). number 4 (drop i bytes)) (sym u) ∙ sym t.value ∙ omega arith;
            place = omega arith;
            within = omega arith;
          }

      two : (m second : ℕ) → Found bytes start 0 most 4 m second → (l : Result Whole Refusal) → section_of bytes second m m 2 (SecondCount second) ≡ l
          → followed l (λ _ third. followed (section_of bytes third 2 2 4 (ThirdCount third)) (λ _ next. given m next)) ≡ given n next
          → Claimed bytes start most n next
      two m second f (Err _) h d = absurd (refused_rows d)
      two m second f (Ok depths) h d =
          three m second depths.count depths.next f (found bytes second m m 2 _ depths.count depths.next h)
          (section_of bytes depths.next 2 2 4 (ThirdCount depths.next)) refl d

      one : (l : Result Whole Refusal) → section_of bytes start 0 most 4 (FirstCount start) ≡ l → Claimed bytes start most n next
      one (Err _) h = absurd (refused_rows (rw h at e))
      one (Ok labels) h =
          let m = labels.count in
          two m labels.next (found bytes start 0 most 4 _ m labels.next h) (section_of bytes labels.next m m 2 (SecondCount labels.next)) refl (rw h at e)

  -- a claim lies within the limit and the input
  pub claims : most ≤ listing_rows → Claim bytes start (claim_of bytes start most)
  claims h = go (claim_of bytes start most) refl
    where
      go : (a : Result Rows Refusal) → claim_of bytes start most ≡ a → Claim bytes start a
      go (Err r) e = tt
      go (Ok rows) e = let c = claimed rows.count rows.next e in (omega arith, omega arith)

-- rows are given where the input claims them, both sums agree, and both lent row slices have room
pub record Accepted (bytes : List ℕ) (start : ℕ) (limit : Limit) (depths labels : List ℕ) (n next : ℕ) : Type 0 where
  pub claimed : Claimed bytes start (most_rows limit) n next
  pub agree : sums_agree bytes start n ≡ true
  pub depths_room : n ≤ length depths
  pub labels_room : n ≤ length labels

pub accepted : (bytes : List ℕ) (start : ℕ) (limit : Limit) (depths labels : List ℕ) (n next : ℕ) → read_of bytes start limit depths labels ≡ given n next
    → Accepted bytes start limit depths labels n next
accepted bytes start limit depths labels n next e = go (claim_of bytes start (most_rows limit)) refl e
  where
    room : (m place : ℕ) → room_of (given m place) (length depths) (length labels) ≡ given n next
        → (given m place ≡ given n next) × (m ≤ length depths) × (m ≤ length labels)
    room m place f = at (dec_le m (length depths)) (dec_le m (length labels))
      where
        at : Dec (m ≤ length depths) → Dec (m ≤ length labels) → (given m place ≡ given n next) × (m ≤ length depths) × (m ≤ length labels)
        at (yes h) (yes k) = (rw (le-leb _ _ h, le-leb _ _ k) at f, h, k)
        at (no h) k = absurd (refused_rows (rw (lt-leb m (length depths) (omega arith)) at f))
        at (yes h) (no k) = absurd (refused_rows (rw (le-leb _ _ h, lt-leb m (length labels) (omega arith)) at f))

    go : (a : Result Rows Refusal) → claim_of bytes start (most_rows limit) ≡ a → room_of (agreed_of bytes start a) (length depths) (length labels) ≡ given n next
        → Accepted bytes start limit depths labels n next
    go (Err r) c f = absurd (refused_rows f)
    go (Ok rows) c f = sums (sums_agree bytes start m) refl
      where
        m : ℕ
        m = rows.count

        sums : (b : Bool) → sums_agree bytes start m ≡ b → Accepted bytes start limit depths labels n next
        sums false s = absurd (refused_rows (rw s at f))
        sums true s =
            let r = room m rows.next (rw s at f) in
            let mn = (given_same r.0).0 in
            let same : claim_of bytes start (most_rows limit) ≡ given n next = c ∙ r.0 in
            record { claimed = claimed bytes start (most_rows limit) n next same; agree = rw mn at s; depths_room = omega arith; labels_room = omega arith }

-- rows that the three judgements give one after another lie within the input, and both lent row slices have a slot for each
pub fillable : (bytes : List ℕ) (start : ℕ) (limit : Limit) (depths labels : List ℕ) (most : ℕ) (claim agreed rows : Rows)
    → most ≡ most_rows limit → Ok claim ≡ claim_of bytes start most → Ok agreed ≡ agreed_of bytes start (Ok claim)
    → Ok rows ≡ room_of (Ok agreed) (length depths) (length labels)
    → (start + (20 + 6 * rows.count) ≤ length bytes) × (rows.count ≤ length depths) × (rows.count ≤ length labels)
fillable bytes start limit depths labels most claim agreed rows m c a r =
    let given : read_of bytes start limit depths labels ≡ Ok rows = rw (← m, ← c, ← a, ← r) in
    let f = accepted bytes start limit depths labels rows.count rows.next given in
    let within = f.claimed.within in
    let place = f.claimed.place in
    (omega arith, f.depths_room, f.labels_room)

-- and only there: such an input is accepted
claim_whole : (bytes : List ℕ) (start most n next : ℕ) → Claimed bytes start most n next → claim_of bytes start most ≡ given n next
unfolding claim_of
claim_whole bytes start most n next c =
    let second = after start 4 n in
    let third = after second 2 n in
    let p : after third 4 2 ≡ next = omega arith in
    rw (
      found_whole bytes start 0 most 4 (FirstCount start) (omega arith) n (sym c.first) (omega arith) (omega arith) (omega arith),
      found_whole bytes second n n 2 (SecondCount second) (omega arith) n (sym c.second) (omega arith) (omega arith) (omega arith),
      found_whole bytes third 2 2 4 (ThirdCount third) (omega arith) 2 (sym c.third) (omega arith) (omega arith) (omega arith),
      p,
    )

pub accepts : (bytes : List ℕ) (start : ℕ) (limit : Limit) (depths labels : List ℕ) (n next : ℕ) → Accepted bytes start limit depths labels n next
    → read_of bytes start limit depths labels ≡ given n next
accepts bytes start limit depths labels n next a =
    rw (claim_whole bytes start (most_rows limit) n next a.claimed, a.agree, le-leb _ _ a.depths_room, le-leb _ _ a.labels_room)
