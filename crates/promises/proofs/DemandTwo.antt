-- Demand 2 holds: of the inclusion answer by the laws of `matching`, of parcels by those of `parcels`. Assumes nothing.
use mathlib.Core.Path.{◌≡◌, refl, sym, ap, ap₂, ◌∙◌}
use mathlib.Core.Logic.{inl, inr}
use mathlib.Core.List.{List}
use Prim.Native.Nat.{ℕ, ◌+◌, ◌*◌}
use native.Mathlib.Omega.{arith}
use lib.ListN.{length, take, drop}
use lib.Seq.{take_at, drop_at}
use Rattle.rows.specs.Embedding.{SameLabel, Embedding, Included}
use Rattle.std.specs.Prelude.{Ok, Err}
use Rattle.matching.specs.declared.Answer.TheVariants as answer
use Rattle.matching.specs.declared.Corner.{Corner}
use Rattle.matching.specs.declared.Refusal.{Refusal}
use Rattle.matching.specs.Answer.{Answers}
use Rattle.matching.proofs.CornerLaws.{corner_one, whole_width}
use Rattle.matching.proofs.EarliestClose.{earliest_one}
use Rattle.matching.proofs.Verdict as verdict
use Rattle.parcels.specs.Parcel.{parcel_of}
use Rattle.parcels.specs.Read.{depths_at, labels_at, depths_in, labels_in}
use Rattle.parcels.specs.Write.{written_by}
use Rattle.parcels.specs.declared.Limit.{Limit}
use Rattle.parcels.proofs.LittleEndian.{numbers_length}
use Rattle.parcels.proofs.Sections.{parcel_length}
use Rattle.parcels.proofs.Writing.{wrote, front}
use Rattle.parcels.proofs.Accepting.{accepted}
use Rattle.parcels.proofs.ReadsBack.{Gives, reads_back_listing, reads_back_recipe}
use Rattle.parcels.proofs.OneParcel.{stretch_parcel}
use Rattle.promises.specs.Calls.{Inclusion, ReadAnswer, WriteAnswer, Reads}
use Rattle.promises.specs.DemandTwo.{Ordered, Exists, Decides, GivesBack, ReadAs, stretch, DemandTwo}

never : {A : Type 0} → ◌≡◌ {A = ℕ} 0 1 → A
never z = absurd (omega arith)

-- an embedding, spelled out
module _ (rd rl td tl map : List ℕ) where
  to_ordered : Embedding (SameLabel rl tl) rd td map → Ordered rd rl td tl map
  to_ordered e =
      let k = e.embeds in record { lands = k.lands; labels = k.fits; once = k.once; ancestors = k.ancestor; left_to_right = k.left }

  of_ordered : length map ≡ length rd → Ordered rd rl td tl map → Embedding (SameLabel rl tl) rd td map
  of_ordered n o =
      record {
        count = n;
        embeds = record { lands = o.lands; fits = o.labels; once = o.once; ancestor = o.ancestors; left = o.left_to_right };
      }

module _ (rd rl td tl m n : List ℕ) where
  of_found : Exists rd rl td tl → Included (SameLabel rl tl) rd td
  of_found f = (f.0, of_ordered rd rl td tl f.0 f.1 f.2)

  module _ (c : Corner) (a : Answers rd rl td tl m (Ok (answer.Included c)) n) where
    ordered : Ordered rd rl td tl a.3.0
    ordered = to_ordered rd rl td tl a.3.0 (verdict.yes_embeds rd rl td tl m c n a)

    found : Exists rd rl td tl
    found = (a.3.0, a.3.1.count, ordered)

    pub front_map : take (length rd) n ≡ a.3.0
    front_map = ap (take (length rd)) a.3.2 ∙ take_at a.3.0 (drop (length rd) m) (length rd) a.3.1.count

    behind_map : drop (length rd) n ≡ drop (length rd) m
    behind_map = ap (drop (length rd)) a.3.2 ∙ drop_at a.3.0 (drop (length rd) m) (length rd) a.3.1.count

    of_yes : Decides rd rl td tl m (Ok (answer.Included c)) n
    of_yes =
        let g = verdict.yes_good rd rl td tl m c n a in
        record {
          decides = λ _ _. inl (c, refl);
          yes_exactly = λ _ _. (λ _. found, λ _. (c, refl));
          no_exactly = λ _ _. (λ y. let e = y.1 in never (cc), λ no. absurd (no found));
          yes_map = λ _. (rw front_map a.3.1, rw front_map ordered, behind_map);
          one_map = λ _ map k. earliest_one (SameLabel rl tl) rd td g.listing_formed.outline map a.3.0 k a.3.1 ∙ sym front_map;
          yes_corner = λ d e.
              let q : d ≡ c = cc in
              rw q ((whole_width (SameLabel rl tl) rd td g.recipe_formed.outline g.recipe_some g.listing_formed.outline c.width c.row a.1).0 a.2);
          no_corner = λ d e. never (cc);
          one_corner = λ d e. never (cc);
          judge_yes = λ _ _ s j. (λ _. verdict.judge_yes rd rl td tl m c n a s j, λ _. (c, refl));
          judge_no = λ _ _ s j. (λ y. let e = y.1 in never (cc), λ e. let f = verdict.judge_yes rd rl td tl m c n a s j in never (cc));
        }

  module _ (c : Corner) (a : Answers rd rl td tl m (Ok (answer.Absent c)) n) where
    of_no : Decides rd rl td tl m (Ok (answer.Absent c)) n
    of_no =
        record {
          decides = λ _ _. inr (c, refl);
          yes_exactly = λ _ _. (λ y. let e = y.1 in never (cc), λ f. absurd (verdict.no_excluded rd rl td tl m c n a (of_found f)));
          no_exactly = λ _ _. (λ _ f. verdict.no_excluded rd rl td tl m c n a (of_found f), λ _. (c, refl));
          yes_map = λ y. let e = y.1 in never (cc);
          one_map = λ y. let e = y.1 in never (cc);
          yes_corner = λ d e. never (cc);
          no_corner = λ d e. let q : d ≡ c = cc in rw q (a.1, a.3);
          one_corner = λ d e i v k. let q : d ≡ c = cc in rw q (corner_one (SameLabel rl tl) rd td i v c.width c.row k a.1);
          judge_yes = λ _ _ s j. (λ y. let e = y.1 in never (cc), λ e. let f = verdict.judge_no rd rl td tl m c n a s j in never (cc));
          judge_no = λ _ _ s j. (λ _. verdict.judge_no rd rl td tl m c n a s j, λ _. (c, refl));
        }

  of_refusal : (x : Refusal) → Answers rd rl td tl m (Err x) n → Decides rd rl td tl m (Err x) n
  of_refusal x a =
      record {
        decides = λ g h. absurd (verdict.not_refused rd rl td tl m x n g h a);
        yes_exactly = λ g h. absurd (verdict.not_refused rd rl td tl m x n g h a);
        no_exactly = λ g h. absurd (verdict.not_refused rd rl td tl m x n g h a);
        yes_map = λ y. let e = y.1 in never (cc);
        one_map = λ y. let e = y.1 in never (cc);
        yes_corner = λ d e. never (cc);
        no_corner = λ d e. never (cc);
        one_corner = λ d e. never (cc);
        judge_yes = λ g h s j. absurd (verdict.not_refused rd rl td tl m x n g h a);
        judge_no = λ g h s j. absurd (verdict.not_refused rd rl td tl m x n g h a);
      }

  answered : (r : Inclusion) → Answers rd rl td tl m r n → Decides rd rl td tl m r n
  answered (Ok (answer.Included c)) a = of_yes c a
  answered (Ok (answer.Absent c)) a = of_no c a
  answered (Err x) a = of_refusal x a

-- what a read gave is what the laws of parcels say
gives_back : (bytes : List ℕ) (start : ℕ) (limit : Limit) (depths labels old_depths old_labels : List ℕ) (size : ℕ) (r : ReadAnswer) (new_depths new_labels : List ℕ)
    → Gives bytes start limit old_depths old_labels depths labels size → Reads bytes start limit old_depths old_labels r new_depths new_labels
    → GivesBack depths labels start size r old_depths old_labels new_depths new_labels
gives_back bytes start limit depths labels old_depths old_labels size r new_depths new_labels g k =
    record {
      answer = k.answer ∙ g.answer;
      depths_back = k.depths_after ∙ rw k.answer g.depths_after;
      labels_back = k.labels_after ∙ rw k.answer g.labels_after;
    }

module _ {bytes : List ℕ} {start n next : ℕ} {depths labels : List ℕ} (x : ReadAs bytes start n next depths labels) where
  place_after : next ≡ start + (20 + 6 * n)
  place_after = (accepted bytes start x.limit x.old_depths x.old_labels n next (sym x.reads.answer)).claimed.place

  the_parcel : stretch bytes start next ≡ parcel_of depths labels
  the_parcel =
      let d = x.depths_read ∙ ap (take n) x.reads.depths_after ∙ take_at (depths_in bytes start n) (drop n x.old_depths) n (numbers_length 2 n (drop (depths_at start n) bytes)) in
      let l = x.labels_read ∙ ap (take n) x.reads.labels_after ∙ take_at (labels_in bytes start n) (drop n x.old_labels) n (numbers_length 4 n (drop (labels_at start) bytes)) in
      stretch_parcel
      (record {
        bytes = bytes;
        start = start;
        limit = x.limit;
        depth_slots = x.old_depths;
        label_slots = x.old_labels;
        count = n;
        next = next;
        input = x.input;
        answer = sym x.reads.answer;
      })
      ∙ sym (ap₂ parcel_of d l)

pub demand_two : DemandTwo
demand_two =
    record {
      answer = λ rd rl td tl m r n a. answered rd rl td tl m n r a;
      written = λ depths labels bytes size new w.
          let e = sym w.answer in
          let f = wrote depths labels bytes size e in
          let b = w.bytes_after ∙ ap (λ (x : WriteAnswer). written_by x (parcel_of depths labels) bytes) e in
          (f.size, ap (take size) w.bytes_after ∙ front depths labels bytes size e, ap (drop size) b ∙ drop_at (parcel_of depths labels) (drop size bytes) size (parcel_length depths labels f.same ∙ sym f.size));
      reads_back = λ depths labels bytes size new t w before behind od ol a b r nd nl. (
        λ k. gives_back _ _ _ depths labels od ol size r nd nl
            (reads_back_listing depths labels bytes size t (sym w.answer) before behind od ol a b) (rw w.bytes_after at k),
        λ few k. gives_back _ _ _ depths labels od ol size r nd nl
            (reads_back_recipe depths labels bytes size t (sym w.answer) before behind od ol a b few) (rw w.bytes_after at k),
      );
      one_parcel = λ bytes start n next depths labels x. (place_after x, the_parcel x);
      same_bytes = λ bytes other start place n k next after depths labels x y. the_parcel x ∙ sym (the_parcel y);
    }
