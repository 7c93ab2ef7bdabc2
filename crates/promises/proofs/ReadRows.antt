-- The reader's checks follow document 01's table: field by field, then the sums, then the room. Assumes nothing.
use mathlib.Core.Path.{◌≡◌, refl, sym, subst}
use mathlib.Core.Bool.{true}
use mathlib.Core.List.{List}
use Prim.Native.Nat.{ℕ, ◌+◌, ◌≤◌, ◌<◌}
use native.Mathlib.Omega.{arith}
use native.Mathlib.Decide.{ℕ_discrete, dec_le}
use lib.ListN.{length, drop}
use borrow.Author.Tests.{le-leb, lt-leb}
use Rattle.parcels.specs.Numbers.{number}
use Rattle.parcels.specs.Sums.{none, added_all}
use Rattle.parcels.specs.Parcel.{words}
use Rattle.parcels.specs.Refusals.{number_of, place_of}
use Rattle.std.specs.Prelude.{Ok, Err}
use Rattle.parcels.specs.Read.{given as rows_given, most_rows, after, section_of, followed, claim_of, sums_at, labels_in, depths_in, sums_agree, agreed_of, room_of, read_of}
use Rattle.parcels.specs.declared.Limit.{Limit}
use Rattle.parcels.specs.declared.Refusal.{Refusal}
use Rattle.parcels.specs.declared.Refusal.TheVariants.{Ended, SecondCount, ThirdCount, FirstCount}
use Rattle.parcels.proofs.Judging.{cut_count, counted_low, counted_high, cut_fields, found_whole, first_differs, second_differs, both_agree}
use Rattle.parcels.proofs.Accepting.{Claimed, accepts}
use Rattle.promises.specs.Table.{SectionRows, SumsRows, RoomRows, ReadRows}
use Rattle.promises.specs.Calls.{ReadAnswer}
use Rattle.promises.specs.DemandOne.{Seen, refused, ByTable}
use Rattle.promises.proofs.ByTable.{given, passed}

-- a refusal as it is, rows as what comes next
abbrev pub seen_read : ReadAnswer → Seen → Seen
seen_read (Ok rows) next = next
seen_read (Err x) next = refused (number_of x) (place_of x)

-- one section, whatever is made of its outcome
module _ (bytes : List ℕ) (finish : ReadAnswer → Seen) (kept : (x : Refusal) → finish (Err x) ≡ refused (number_of x) (place_of x)) where
  section_rows : {Below : ℕ → ℕ → Type 0} {Wrong : Type 0} (at least most width wrongNumber : ℕ) (wrong : Refusal) (f : ℕ → ℕ → ReadAnswer)
      → finish (Err wrong) ≡ refused wrongNumber at
      → (number 4 (drop at bytes) < least → Wrong) → (most < number 4 (drop at bytes) → Wrong)
      → (Wrong → least ≤ number 4 (drop at bytes) → number 4 (drop at bytes) ≤ most → ⊥)
      → (least ≤ number 4 (drop at bytes) → number 4 (drop at bytes) ≤ most → after at width (number 4 (drop at bytes)) ≤ length bytes
      → ByTable Below (finish (f (number 4 (drop at bytes)) (after at width (number 4 (drop at bytes))))))
      → ByTable (SectionRows bytes at width wrongNumber Wrong Below) (finish (followed (section_of bytes at least most width wrong) f))
  section_rows {Below} {Wrong} at least most width wrongNumber wrong f e low high right k =
      go (dec_le (at + 4) (length bytes)) (dec_le least c) (dec_le c most) (dec_le (after at width c) (length bytes))
    where
      c : ℕ
      c = number 4 (drop at bytes)

      T : ℕ → ℕ → Type 0
      T = SectionRows bytes at width wrongNumber Wrong Below

      ended : ByTable T (refused 11 (length bytes)) → ByTable T (finish (Err (Ended (length bytes))))
      ended t = subst (ByTable T) (sym (kept (Ended (length bytes)))) t

      miscounted : at + 4 ≤ length bytes → Wrong → ByTable T (finish (Err wrong))
      miscounted h w = subst (ByTable T) (sym e) (passed (λ q x. omega (arith, x.1)) (given at (refl, w) (λ q x. x.0)))

      go : Dec (at + 4 ≤ length bytes) → Dec (least ≤ c) → Dec (c ≤ most) → Dec (after at width c ≤ length bytes)
          → ByTable T (finish (followed (section_of bytes at least most width wrong) f))
      go (no h) l m w = rw (cut_count bytes at least most width wrong (omega arith)) (ended (given (length bytes) (refl, omega arith) (λ q x. x.0)))
      go (yes h) (no l) m w = rw (counted_low bytes at least most width wrong h c refl (omega arith)) (miscounted h (low (omega arith)))
      go (yes h) (yes l) (no m) w = rw (counted_high bytes at least most width wrong h c refl l (omega arith)) (miscounted h (high (omega arith)))
      go (yes h) (yes l) (yes m) (no w) =
          rw (cut_fields bytes at least most width wrong h c refl l m (omega arith))
          (ended (passed (λ q x. omega (arith, x.1)) (passed (λ q x. right x.1 l m) (given (length bytes) (refl, omega arith) (λ q x. x.0)))))
      go (yes h) (yes l) (yes m) (yes w) =
          rw (found_whole bytes at least most width wrong h c refl l m w)
          (passed (λ q x. omega (arith, x.1)) (passed (λ q x. right x.1 l m) (passed (λ q x. omega (arith, x.1)) (k l m w))))

module _ (bytes : List ℕ) (start : ℕ) (limit : Limit) (depths labels : List ℕ) {Below : ℕ → ℕ → Type 0} (next : Seen)
    (k : (n place : ℕ) → read_of bytes start limit depths labels ≡ rows_given n place → ByTable Below next) where
  abbrev n : ℕ
  n = number 4 (drop start bytes)

  abbrev finish : ReadAnswer → Seen
  finish a = seen_read (room_of (agreed_of bytes start a) (length depths) (length labels)) next

  room_rows : (place : ℕ) → Claimed bytes start (most_rows limit) n place → sums_agree bytes start n ≡ true
      → ByTable (RoomRows n (length depths) (length labels) Below) (seen_read (room_of (rows_given n place) (length depths) (length labels)) next)
  room_rows place c s = go (dec_le n (length depths)) (dec_le n (length labels))
    where
      go : Dec (n ≤ length depths) → Dec (n ≤ length labels)
          → ByTable (RoomRows n (length depths) (length labels) Below) (seen_read (room_of (rows_given n place) (length depths) (length labels)) next)
      go (no h) l = rw (lt-leb n (length depths) (omega arith)) (given 0 (refl, omega arith) (λ q x. x.0))
      go (yes h) (no l) =
          rw (le-leb _ _ h, lt-leb n (length labels) (omega arith)) (passed (λ q x. omega (arith, x.1)) (given 0 (refl, omega arith) (λ q x. x.0)))
      go (yes h) (yes l) =
          rw (le-leb _ _ h, le-leb _ _ l) (passed (λ q x. omega (arith, x.1)) (passed (λ q x. omega (arith, x.1))
          (k n place (accepts bytes start limit depths labels n place (record { claimed = c; agree = s; depths_room = h; labels_room = l })))))

  sums_rows : (place : ℕ) → Claimed bytes start (most_rows limit) n place
      → ByTable (SumsRows bytes start n (sums_at start n) (RoomRows n (length depths) (length labels) Below)) (finish (rows_given n place))
  sums_rows place c = go (ℕ_discrete _ _) (ℕ_discrete _ _)
    where
      go : Dec (number 4 (drop (sums_at start n) bytes) ≡ (added_all none (words n (labels_in bytes start n) (depths_in bytes start n))).first)
          → Dec (number 4 (drop (sums_at start n + 4) bytes) ≡ (added_all none (words n (labels_in bytes start n) (depths_in bytes start n))).second)
          → ByTable (SumsRows bytes start n (sums_at start n) (RoomRows n (length depths) (length labels) Below)) (finish (rows_given n place))
      go (no h) l = rw (first_differs bytes start n _ refl h) (given (sums_at start n) (refl, h) (λ q x. x.0))
      go (yes h) (no l) = rw (second_differs bytes start n _ refl h l) (passed (λ q x. x.1 h) (given (sums_at start n) (refl, l) (λ q x. x.0)))
      go (yes h) (yes l) =
          let s = both_agree bytes start n _ refl h l in rw s (passed (λ q x. x.1 h) (passed (λ q x. x.1 l) (room_rows place c s)))

  pub read_rows : ByTable (ReadRows bytes start limit (length depths) (length labels) Below) (seen_read (read_of bytes start limit depths labels) next)
  unfolding claim_of
  read_rows =
      section_rows bytes finish (λ x. refl) start 0 (most_rows limit) 4 16 (FirstCount start) _ refl (λ h. absurd (omega arith)) (λ h. h) (λ w l m. omega arith) (λ _ high _.
      section_rows bytes finish (λ x. refl) (after start 4 n) n n 2 12 (SecondCount (after start 4 n)) _ refl (λ h e. omega arith) (λ h e. omega arith)
      (λ w l m. w (omega arith)) (λ l₂ h₂ _.
      let q : number 4 (drop (after start 4 n) bytes) ≡ n = omega arith in
      rw q
      (section_rows bytes finish (λ x. refl) (after (after start 4 n) 2 n) 2 2 4 13 (ThirdCount (after (after start 4 n) 2 n)) _ refl
      (λ h e. omega arith) (λ h e. omega arith) (λ w l m. w (omega arith)) (λ l₃ h₃ w₃.
      sums_rows _ (record { first = refl; high = high; second = q; third = omega arith; place = omega arith; within = w₃ })))))
