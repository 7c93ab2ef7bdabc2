-- Two outcomes that meet a public function's contract are equal: the contracts say all that is seen of a call. Assumes nothing.
use Rattle.std.proofs.Common.{◌≡◌, Result, sym, ap, ◌∙◌}
use contract.Lifetimes.{Lfts}
use denote.Triple.Clauses.{AtExit}
use borrow.Fn.Kinds.{Dens, res_t, ended_of}
use Rattle.parcels.specs.declared.Refusal.{Refusal}
use Rattle.parcels.specs.declared.Rows.{Rows}
use Rattle.parcels.specs.Read.{filled, depths_in, labels_in}
use Rattle.parcels.proofs.write.Kinds as write
use Rattle.parcels.proofs.write.Reads as write-contract
use Rattle.parcels.proofs.read.Kinds as read
use Rattle.parcels.proofs.read.Reads as read-contract

-- of one call of `write`: the answer, and the lent bytes
pub one_write : (κs : Lfts 3) (args : Dens κs write.ps) (r s : (res_t write.r κs).Denot) (x y : AtExit (ended_of 3 write.ps write.r) κs)
    → write-contract.Post κs args r x → write-contract.Post κs args s y → (r ≡ s) × (x.1.1.0.now ≡ y.1.1.0.now)
one_write κs args r s x y p q = (p.0 ∙ sym q.0, p.1 ∙ sym q.1)

-- of one call of `read`: the answer, the lent depths and the lent labels
pub one_read : (κs : Lfts 3) (args : Dens κs read.ps) (r s : (res_t read.r κs).Denot) (x y : AtExit (ended_of 3 read.ps read.r) κs)
    → read-contract.Post κs args r x → read-contract.Post κs args s y
    → (r ≡ s) × (x.1.1.1.0.now ≡ y.1.1.1.0.now) × (x.1.1.1.1.0.now ≡ y.1.1.1.1.0.now)
one_read κs args r s x y p q =
    let same : r ≡ s = p.0 ∙ sym q.0 in
    let bytes = args.0.now in
    let start = args.1.0 in (
      same,
      p.1.0 ∙ ap (λ (a : Result Rows Refusal). filled a (depths_in bytes start) args.1.1.1.0.now) same ∙ sym q.1.0,
      p.1.1 ∙ ap (λ (a : Result Rows Refusal). filled a (labels_in bytes start) args.1.1.1.1.0.now) same ∙ sym q.1.1,
    )
