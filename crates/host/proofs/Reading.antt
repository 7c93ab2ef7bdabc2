-- What reading gives: the same answer for any row slices of one length, and the rows in the first slots. Assumes nothing.
use mathlib.Core.Path.{◌≡◌, sym}
use mathlib.Core.List.{List}
use Prim.Native.Nat.{ℕ, ◌≤◌}
use native.Mathlib.Omega.{arith}
use lib.ListN.{length, drop, length-replicate}
use lib.Seq.{take_at}
use Rattle.std.specs.Prelude.{Result, Ok, Err, IfOk}
use Rattle.parcels.specs.Read.{read_of, filled, depths_in, labels_in}
use Rattle.parcels.specs.declared.Limit.{Limit}
use Rattle.parcels.specs.declared.Refusal.{Refusal}
use Rattle.parcels.specs.declared.Rows.{Rows}
use Rattle.parcels.proofs.LittleEndian.{numbers_length}
use Rattle.parcels.proofs.Accepting.{accepted}
use Rattle.host.specs.Outcome.{zeros}
use Rattle.host.specs.Table.{Holds}

pub zeros_length : (n : ℕ) → length (zeros n) ≡ n
unfolding zeros
zeros_length n = length-replicate n 0

module _ (input : List ℕ) (start : ℕ) (limit : Limit) (depths labels : List ℕ) where
  -- what is lent for the rows counts by its length alone
  pub read_as : (n : ℕ) → length depths ≡ n → length labels ≡ n → read_of input start limit depths labels ≡ read_of input start limit (zeros n) (zeros n)
  read_as n d l = rw (d, l, zeros_length n)

  -- what was filled in stands in the first slots
  pub held : {d l : List ℕ} (answer : Result Rows Refusal) → d ≡ filled answer (depths_in input start) depths
      → l ≡ filled answer (labels_in input start) labels → IfOk answer (λ rows. Holds input start rows.count d l)
  held (Err x) f g = tt
  held (Ok rows) f g =
      let n = rows.count in
      record {
        first_depths = rw f (take_at (depths_in input start n) (drop n depths) n (numbers_length 2 n _));
        first_labels = rw g (take_at (labels_in input start n) (drop n labels) n (numbers_length 4 n _));
      }

  -- and there is a slot for each row
  pub fits : (n : ℕ) (answer : Result Rows Refusal) → length depths ≡ n → answer ≡ read_of input start limit depths labels → IfOk answer (λ rows. rows.count ≤ n)
  fits n (Err x) d e = tt
  fits n (Ok rows) d e = let a = accepted input start limit depths labels rows.count rows.next (sym e) in omega (arith, a.depths_room)
