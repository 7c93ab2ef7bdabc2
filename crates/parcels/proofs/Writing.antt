-- The writer's answers, test by test, each with the lent bytes afterwards. Assumes nothing.
use Rattle.std.proofs.Common.{◌≡◌, ℕ, ◌+◌, ◌<◌, ◌≤◌, List, Result, Ok, Err, ◌++◌, length, take, drop, sym, ap, ◌∙◌, arith, take_at, eq-eqb, ne_eqb, le-leb}
use native.Mathlib.Decide.{dec_le, ℕ_discrete}
use lib.Seq.{sets, sets-eq}
use borrow.Author.Tests.{lt-leb}
use Rattle.rows.specs.Limits.{listing_rows}
use Rattle.parcels.specs.Parcel.{parcel_of}
use Rattle.parcels.specs.Write.{length_of, write_of, written_by, written}
use Rattle.parcels.specs.declared.Refusal.{Refusal}
use Rattle.parcels.specs.declared.Refusal.TheVariants.{SlicesDiffer, OverLimit, BytesTooShort}
use Rattle.parcels.proofs.Sections.{parcel_length}

module _ (depths labels bytes : List ℕ) where
  -- an answer and the bytes after it
  abbrev pub Writes : Result ℕ Refusal → List ℕ → Type 0
  Writes answer after = (answer ≡ write_of depths labels bytes) × (after ≡ written depths labels bytes)

  outcome : (answer : Result ℕ Refusal) → write_of depths labels bytes ≡ answer → Writes answer (written_by answer (parcel_of depths labels) bytes)
  outcome answer e = (sym e, ap (λ (a : Result ℕ Refusal). written_by a (parcel_of depths labels) bytes) (sym e))

  pub slices_differ : (length depths ≡ length labels → ⊥) → Writes (Err SlicesDiffer) bytes
  unfolding write_of
  slices_differ h = outcome _ (rw (ne_eqb _ _ h))

  pub over_limit : length depths ≡ length labels → listing_rows < length labels → Writes (Err OverLimit) bytes
  unfolding write_of
  over_limit e h = outcome _ (rw (eq-eqb _ _ e, lt-leb _ _ h))

  pub bytes_short : length depths ≡ length labels → length labels ≤ listing_rows → length bytes < length_of (length labels) → Writes
      (Err BytesTooShort) bytes
  unfolding write_of
  bytes_short e h l = outcome _ (rw (eq-eqb _ _ e, le-leb _ _ h, lt-leb _ _ l))

  answered : length depths ≡ length labels → length labels ≤ listing_rows → length_of (length labels) ≤ length bytes
      → write_of depths labels bytes ≡ Ok (length_of (length labels))
  unfolding write_of
  answered e h l = rw (eq-eqb _ _ e, le-leb _ _ h, le-leb _ _ l)

  -- the parcel that is put at the front is what is written
  pub whole_parcel : length depths ≡ length labels → length labels ≤ listing_rows → length_of (length labels) ≤ length bytes
      → (after : List ℕ) → after ≡ sets bytes 0 (parcel_of depths labels) → Writes (Ok (length_of (length labels))) after
  whole_parcel e h l after p =
      let o = outcome _ (answered e h l) in
      let n : 0 + length (parcel_of depths labels) ≡ length_of (length labels) = omega (arith, parcel_length depths labels e) in
      let s = sets-eq (parcel_of depths labels) bytes 0 (omega arith) in
      (o.0, p ∙ s ∙ ap (λ (k : ℕ). parcel_of depths labels ++ drop k bytes) n ∙ o.1)

-- a length is given where the slices agree, the limit holds and the bytes have room
pub record Wrote (depths labels bytes : List ℕ) (n : ℕ) : Type 0 where
  pub same : length depths ≡ length labels
  pub few : length labels ≤ listing_rows
  pub fits : length_of (length labels) ≤ length bytes
  pub size : n ≡ length_of (length labels)

pub wrote : (depths labels bytes : List ℕ) (n : ℕ) → write_of depths labels bytes ≡ Ok n → Wrote depths labels bytes n
wrote depths labels bytes n e =
    go (ℕ_discrete (length depths) (length labels)) (dec_le (length labels) listing_rows) (dec_le (length_of (length labels)) (length bytes))
  where
    not : {r : Refusal} → Writes depths labels bytes (Err r) bytes → ⊥
    not w = let o = w.0 in let z : ◌≡◌ {A = ℕ} 0 1 = cc in omega arith

    go : Dec (length depths ≡ length labels) → Dec (length labels ≤ listing_rows) → Dec (length_of (length labels) ≤ length bytes) → Wrote depths labels bytes n
    go (yes s) (yes f) (yes h) =
        let a = answered depths labels bytes s f h in
        let z : n ≡ length_of (length labels) = cc in
        record { same = s; few = f; fits = h; size = z }
    go (no s) f h = absurd (not (slices_differ depths labels bytes s))
    go (yes s) (no f) h = absurd (not (over_limit depths labels bytes s (omega arith)))
    go (yes s) (yes f) (no h) = absurd (not (bytes_short depths labels bytes s f (omega arith)))

-- what is written at the front is the parcel
pub front : (depths labels bytes : List ℕ) (n : ℕ) → write_of depths labels bytes ≡ Ok n → take n (written depths labels bytes) ≡ parcel_of depths labels
front depths labels bytes n e =
    let w = wrote depths labels bytes n e in
    rw e (take_at (parcel_of depths labels) (drop n bytes) n (parcel_length depths labels w.same ∙ sym w.size))
