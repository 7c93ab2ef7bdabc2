-- Demand 3, first half: after any calls the table and the journal are what the strikes still standing make of the first ones. Assumes nothing.
use mathlib.Core.Path.{◌≡◌, refl, sym, ap, ap₂, subst, ◌∙◌}
use mathlib.Core.List.{List, [], ◌∷◌, ◌++◌, append_assoc, append-nil}
use Prim.Native.Nat.{ℕ, suc, ◌+◌, ◌-◌, ◌*◌, ◌≤◌}
use native.Mathlib.Omega.{arith}
use lib.ListN.{length, take, drop, replicate, length-append, length-take, length-drop, length-replicate, take-append-drop}
use lib.Seq.{length-take-le, take_at, drop_at, drop-drop, take-take}
use Rattle.std.specs.Prelude.{Ok, Err}
use Rattle.rows.specs.Rows.{Row}
use Rattle.journal.specs.Strike.{strike_depths, without, undo_depths, put_back}
use Rattle.journal.specs.Entry.{Entry, entry_of, entry_words, words, no_words, room, written, may_return}
use Rattle.journal.specs.Lent.{Lent, lent, used_depths, used_labels, newest, struck, undone}
use Rattle.journal.specs.Refusals.{Verdict, strike_verdict, undo_verdict, settled, after_strike, after_undo, Sound, Strikable, Returnable}
use Rattle.journal.specs.Session.{Call, strike_row, undo_last, run, accepted, older, standing, replay, left, entries_of, Named, Stands, OnlyStrikes, undos, strikes}
use Rattle.journal.proofs.Strikes.{length_left, length_replay, there, well_replay}
use Rattle.journal.proofs.Returns.{undo_strike, put_without, undoable_iff}
use Rattle.journal.proofs.Verdicts.{strike_iff, undo_iff, strike_done, undo_done}
use Rattle.journal.proofs.Words.{length_written, before_written, take_written, written_again, entry_read}

length_entries : (ds ls st : List ℕ) → length (entries_of ds ls st) ≡ length st * entry_words
length_entries ds ls [] = refl
length_entries ds ls (r ∷ st) =
    let e : suc (length st) * entry_words ≡ length st * entry_words + entry_words = omega arith in
    length-append (entries_of ds ls st) (words (entry_of (replay ds st) (left ls st) r)) ∙ omega (arith, length_entries ds ls st)

-- the rows in use, with what stands behind them
module _ (xs ys zs : List ℕ) (n k m : ℕ) (a : length ys + k ≡ m) (b : n + k ≡ m) (e : xs ≡ ys ++ (replicate k 0 ++ zs)) where
  short : length ys ≡ n
  short = omega arith

  part_used : take n xs ≡ ys
  part_used = ap (take n) e ∙ take_at ys (replicate k 0 ++ zs) n short

  part_spare : drop n xs ≡ replicate k 0 ++ zs
  part_spare = ap (drop n) e ∙ drop_at ys (replicate k 0 ++ zs) n short

  part_length : length xs ≡ m + length zs
  part_length =
      ap length e
      ∙ length-append ys (replicate k 0 ++ zs)
      ∙ omega (arith, length-append (replicate k 0) zs, length-replicate {A = ℕ} k 0)

module _ (s : Lent) (k : Sound s) where
  length_us : length (used_depths s) ≡ s.rows
  length_us = length-take-le s.rows s.depths k.fits

  length_ul : length (used_labels s) ≡ s.rows
  length_ul = length-take-le s.rows s.labels (omega (arith, k.fits, k.lengths))

  module _ (st : List ℕ) (t : Lent) (h : Stands s st t) where
    named_us : Named (length (used_depths s)) st
    named_us = rw length_us h.named

    long_depths : length (replay (used_depths s) st) + length st ≡ s.rows
    long_depths = length_replay (used_depths s) st named_us ∙ length_us

    long_labels : length (left (used_labels s) st) + length st ≡ s.rows
    long_labels = length_left (used_labels s) st (rw length_ul h.named) ∙ length_ul

    pub used_depths_lem : used_depths t ≡ replay (used_depths s) st
    used_depths_lem = part_used t.depths (replay (used_depths s) st) (drop s.rows s.depths) t.rows (length st) s.rows long_depths h.rows
        h.depths

    pub used_labels_lem : used_labels t ≡ left (used_labels s) st
    used_labels_lem = part_used t.labels (left (used_labels s) st) (drop s.rows s.labels) t.rows (length st) s.rows long_labels h.rows h.labels

    spare_depths : drop t.rows t.depths ≡ replicate (length st) 0 ++ drop s.rows s.depths
    spare_depths = part_spare t.depths (replay (used_depths s) st) (drop s.rows s.depths) t.rows (length st) s.rows long_depths h.rows
        h.depths

    spare_labels : drop t.rows t.labels ≡ replicate (length st) 0 ++ drop s.rows s.labels
    spare_labels = part_spare t.labels (left (used_labels s) st) (drop s.rows s.labels) t.rows (length st) s.rows long_labels h.rows
        h.labels

    same_depths : length t.depths ≡ length s.depths
    same_depths =
        part_length t.depths (replay (used_depths s) st) (drop s.rows s.depths) t.rows (length st) s.rows long_depths h.rows h.depths
        ∙ omega (arith, length-drop s.rows s.depths, k.fits)

    same_labels : length t.labels ≡ length s.labels
    same_labels =
        part_length t.labels (left (used_labels s) st) (drop s.rows s.labels) t.rows (length st) s.rows long_labels h.rows h.labels
        ∙ omega (arith, length-drop s.rows s.labels, k.fits, k.lengths)

    -- one strike more
    strike_stands : (r : ℕ) → Strikable t r → Stands s (r ∷ st) (struck t r)
    strike_stands r a =
        let f : t.entries * entry_words + entry_words ≤ length t.journal = omega (arith, a.free) in
        let e : suc t.entries * entry_words ≡ t.entries * entry_words + entry_words = omega arith in
        let w = entry_of (used_depths t) (used_labels t) r in
        record {
          named = (a.first, omega (arith, a.last, h.rows), h.named);
          rows = omega (arith, h.rows, a.first, a.last);
          depths = ap₂ (λ (x y : List ℕ). strike_depths x r ++ (0 ∷ y)) used_depths_lem spare_depths;
          labels = ap₂ (λ (x y : List ℕ). without x r ++ (0 ∷ y)) used_labels_lem spare_labels;
          entries = omega (arith, h.entries);
          journal = ap (λ (x : ℕ). take x (written t.journal t.entries (words w))) e
              ∙ take_written t.journal t.entries (words w) refl f
              ∙ ap₂ (λ (x : List ℕ) (y : Entry). x ++ words y) h.journal (ap₂ (λ (x y : List ℕ). entry_of x y r) used_depths_lem used_labels_lem)
              ∙ append_assoc (take (s.entries * entry_words) s.journal) (entries_of (used_depths s) (used_labels s) st) _;
          words = length_written t.journal t.entries (words w) refl f ∙ h.words;
        }

  -- what was lent stays in order
  pub sound_stands : (st : List ℕ) (t : Lent) → Stands s st t → Sound t
  sound_stands st t h =
      let f : t.entries * entry_words ≤ length t.journal = go (ap length h.journal) in
      record {
        lengths = same_depths st t h ∙ k.lengths ∙ sym (same_labels st t h);
        capacity = omega (arith, same_depths st t h, k.capacity);
        fits = omega (arith, same_depths st t h, k.fits, h.rows);
        rows = rw (used_depths_lem st t h) (well_replay (used_depths s) st (named_us st t h) k.rows);
        words = rw h.words k.words;
        journal = omega (arith, h.words, k.journal);
        entries = omega arith;
      }
    where
      go : length (take (t.entries * entry_words) t.journal) ≡ length
          (take (s.entries * entry_words) s.journal ++ entries_of (used_depths s) (used_labels s) st)
          → t.entries * entry_words ≤ length t.journal
      go e =
          omega (
            arith,
            length-take (t.entries * entry_words) t.journal,
            length-append (take (s.entries * entry_words) s.journal) (entries_of (used_depths s) (used_labels s) st),
            length-take-le (s.entries * entry_words) s.journal (omega (arith, k.entries)),
            length_entries (used_depths s) (used_labels s) st,
            h.entries,
          )

  -- the newest entry is that of the newest strike
  module _ (r : ℕ) (st : List ℕ) (t : Lent) (h : Stands s (r ∷ st) t) where
    abbrev last : Entry
    last = entry_of (replay (used_depths s) st) (left (used_labels s) st) r

    newest_stands : newest t ≡ last
    newest_stands =
        let p = take (s.entries * entry_words) s.journal in
        let e : t.entries - 1 ≡ s.entries + length st = omega (arith, h.entries) in
        let d : (s.entries + length st) * entry_words + entry_words ≡ t.entries * entry_words = omega (arith, h.entries) in
        rw e
        (entry_read t.journal (p ++ entries_of (used_depths s) (used_labels s) st) (s.entries + length st) last
        (length-append p (entries_of (used_depths s) (used_labels s) st)
        ∙ omega (arith, length_entries (used_depths s) (used_labels s) st, length-take-le (s.entries * entry_words) s.journal (omega (arith, k.entries))))
        (ap (λ (x : ℕ). take x t.journal) d ∙ h.journal ∙ sym (append_assoc p (entries_of (used_depths s) (used_labels s) st) (words last))))

    row_there : Row (replay (used_depths s) st) r
    row_there = there (used_depths s) r st (named_us (r ∷ st) t h)

    label_there : Row (left (used_labels s) st) r
    label_there = (h.named.0, omega (arith, h.named.1, length_left (used_labels s) st (rw length_ul h.named.2), length_ul))

    -- a standing strike can be undone
    pub returnable_stands : Returnable t
    returnable_stands =
        record {
          sound = sound_stands (r ∷ st) t h;
          some = omega (arith, h.entries);
          free = omega (arith, h.rows, same_depths (r ∷ st) t h, k.fits);
          returns = ap₂ (λ (x : List ℕ) (y : Entry). may_return x y.row y.depth y.below) (used_depths_lem (r ∷ st) t h) newest_stands
              ∙ ((undoable_iff (replay (used_depths s) (r ∷ st)) (left (used_labels s) (r ∷ st)) last
              (omega (arith, long_depths (r ∷ st) t h, long_labels (r ∷ st) t h))).1 (
                replay (used_depths s) st,
                (
                  left (used_labels s) st,
                  record {
                    well_formed = well_replay (used_depths s) st (rw length_us h.named.2) k.rows;
                    labelled = omega (
                      arith,
                      length_left (used_labels s) st (rw length_ul h.named.2),
                      length_replay (used_depths s) st (rw length_us h.named.2),
                      length_us,
                      length_ul,
                    );
                    row = row_there;
                    says = refl;
                    depths_left = refl;
                    labels_left = refl;
                  },
                ),
              ));
        }

    -- and its undo leaves what the older ones make
    undo_stands : Stands s st (undone t)
    undo_stands =
        let e : t.entries - 1 ≡ s.entries + length st = omega (arith, h.entries) in
        let o : suc t.rows ≡ t.rows + 1 = omega arith in
        let p = take (s.entries * entry_words) s.journal in
        let f : (t.entries - 1) * entry_words + entry_words ≤ length t.journal =
        omega (arith, h.entries, (sound_stands (r ∷ st) t h).entries) in
        record {
          named = h.named.2;
          rows = omega (arith, h.rows);
          depths = ap₂ ◌++◌
              (ap₂ (λ (x : List ℕ) (y : Entry). undo_depths x y.row y.depth y.below) (used_depths_lem (r ∷ st) t h) newest_stands
              ∙ undo_strike (replay (used_depths s) st) r row_there)
              (ap (λ (x : ℕ). drop x t.depths) o ∙ sym (drop-drop 1 t.rows t.depths) ∙ ap (drop 1) (spare_depths (r ∷ st) t h));
          labels = ap₂ ◌++◌
              (ap₂ (λ (x : List ℕ) (y : Entry). put_back x y.row y.label) (used_labels_lem (r ∷ st) t h) newest_stands
              ∙ put_without (left (used_labels s) st) r label_there)
              (ap (λ (x : ℕ). drop x t.labels) o ∙ sym (drop-drop 1 t.rows t.labels) ∙ ap (drop 1) (spare_labels (r ∷ st) t h));
          entries = e;
          journal = before_written t.journal (t.entries - 1) no_words refl f
              ∙ sym (take-take ((t.entries - 1) * entry_words) (t.entries * entry_words) t.journal (omega arith))
              ∙ ap (take ((t.entries - 1) * entry_words)) (h.journal ∙ sym (append_assoc p (entries_of (used_depths s) (used_labels s) st) (words last)))
              ∙ take_at (p ++ entries_of (used_depths s) (used_labels s) st) (words last) ((t.entries - 1) * entry_words)
              (length-append p (entries_of (used_depths s) (used_labels s) st)
              ∙ omega (
                arith,
                length_entries (used_depths s) (used_labels s) st,
                length-take-le (s.entries * entry_words) s.journal (omega (arith, k.entries)),
              ));
          words = length_written t.journal (t.entries - 1) no_words refl f ∙ h.words;
        }

  -- at first no strike stands
  pub none_stands : Stands s [] s
  none_stands =
      record {
        named = tt;
        rows = omega arith;
        depths = sym (take-append-drop s.rows s.depths);
        labels = sym (take-append-drop s.rows s.labels);
        entries = omega arith;
        journal = sym (append-nil _);
        words = refl;
      }

  strike_next : (r : ℕ) (st : List ℕ) (t : Lent) → Stands s st t → (v : Verdict) → strike_verdict t r ≡ v
      → Stands s (accepted v (r ∷ st) st) (settled v (struck t r) t)
  strike_next r st t h (Ok u) e = strike_stands st t h r ((strike_iff t r).0 e)
  strike_next r st t h (Err why) e = h

  -- any calls go on from what strikes have made
  session : s.entries ≡ 0 → (cs : List Call) (st : List ℕ) (t : Lent) → Stands s st t → Stands s (standing cs t st) (run cs t)
  session z [] st t h = h
  session z (strike_row r ∷ cs) st t h = session z cs _ _ (strike_next r st t h (strike_verdict t r) refl)
  session z (undo_last ∷ cs) st t h = session z cs _ _ (go st h (undo_verdict t) refl)
    where
      go : (st : List ℕ) → Stands s st t → (v : Verdict) → undo_verdict t ≡ v → Stands s (accepted v (older st) st) (settled v (undone t) t)
      go st h (Err why) e = h
      go [] h (Ok u) e = absurd (omega (arith, ((undo_iff t).0 e).some, h.entries))
      go (r ∷ st) h (Ok u) e = undo_stands r st t h

  -- demand 3, first half: any strikes and undos, refused ones included, from a table in order and an empty journal:
  -- the table is what the strikes still standing make of the first one, and the entries are just those of these strikes
  pub demand_three : s.entries ≡ 0 → (cs : List Call)
      → Stands s (standing cs s []) (run cs s)
      × (take (length (standing cs s []) * entry_words) (run cs s).journal ≡ entries_of (used_depths s) (used_labels s) (standing cs s []))
  demand_three z cs =
      let h = session z cs [] s none_stands in
      let e : length (standing cs s []) * entry_words ≡ (run cs s).entries * entry_words = omega (arith, h.entries) in
      let o : s.entries * entry_words ≡ 0 = omega arith in (
        h,
        ap (λ (x : ℕ). take x (run cs s).journal) e ∙ h.journal ∙ ap
            (λ (x : ℕ). take x s.journal ++ entries_of (used_depths s) (used_labels s) (standing cs s [])) o,
      )

  -- strikes alone, whatever stands in the journal before them
  pub only_strikes : (cs : List Call) → OnlyStrikes cs → (st : List ℕ) (t : Lent) → Stands s st t → Stands s (standing cs t st) (run cs t)
  only_strikes [] o st t h = h
  only_strikes (strike_row r ∷ cs) o st t h = only_strikes cs o _ _ (strike_next r st t h (strike_verdict t r) refl)
  only_strikes (undo_last ∷ cs) o st t h = absurd o

  -- undoing them all brings the first table back
  pub undo_all : (st : List ℕ) (t : Lent) → Stands s st t → Stands s [] (run (undos st) t)
  undo_all [] t h = h
  undo_all (r ∷ st) t h =
      let e : after_undo t ≡ undone t = undo_done t (returnable_stands r st t h) in
      subst (λ (x : Lent). Stands s [] (run (undos st) x)) (sym e) (undo_all st (undone t) (undo_stands r st t h))

  pub restored : (t : Lent) → Stands s [] t → (t.depths ≡ s.depths) × (t.labels ≡ s.labels) × (t.rows ≡ s.rows) × (t.entries ≡ s.entries)
  restored t h = (
    h.depths ∙ take-append-drop s.rows s.depths,
    h.labels ∙ take-append-drop s.rows s.labels,
    omega (arith, h.rows),
    omega (arith, h.entries),
  )

  -- strikes that each name a row there is, with room in the journal, are all accepted
  pub strikes_stand : (st : List ℕ) → Named s.rows st → s.entries + length st ≤ room s.journal → Stands s st (run (strikes st) s)
  strikes_stand [] v l = none_stands
  strikes_stand (r ∷ st) v l =
      let h = strikes_stand st v.2 (omega arith) in
      let t = run (strikes st) s in
      let a : Strikable (run (strikes st) s) r =
      record {
        sound = sound_stands st (run (strikes st) s) h;
        first = v.0;
        last = omega (arith, v.1, h.rows);
        free = omega (arith, h.words, h.entries);
      } in
      let e : run (strikes (r ∷ st)) s ≡ struck (run (strikes st) s) r =
      run_behind (strikes st) s ∙ strike_done t r a in
      subst (Stands s (r ∷ st)) (sym e) (strike_stands st (run (strikes st) s) h r a)
    where
      run_behind : (cs : List Call) (u : Lent) → run (cs ++ (strike_row r ∷ [])) u ≡ after_strike (run cs u) r
      run_behind [] u = refl
      run_behind (strike_row q ∷ cs) u = run_behind cs (after_strike u q)
      run_behind (undo_last ∷ cs) u = run_behind cs (after_undo u)

-- undo after a strike gives back table and journal, every slot; of the journal the words of the next entry, which are 0 then
pub undo_after_strike : (s : Lent) (r : ℕ) → Strikable s r
    → after_undo (after_strike s r) ≡ lent s.depths s.labels s.rows (written s.journal s.entries no_words) s.entries
undo_after_strike s r a =
    let k = a.sound in
    let h = strike_stands s k [] s (none_stands s k) r a in
    let b = restored s k (undone (struck s r)) (undo_stands s k r [] (struck s r) h) in
    let z : suc s.entries - 1 ≡ s.entries = omega arith in
    let j : written (struck s r).journal (suc s.entries - 1) no_words ≡ written s.journal s.entries no_words =
    ap (λ (x : ℕ). written (struck s r).journal x no_words) z
    ∙ written_again s.journal s.entries (words (entry_of (used_depths s) (used_labels s) r)) refl (omega (arith, a.free)) no_words in
    ap after_undo (strike_done s r a)
    ∙ undo_done (struck s r) (returnable_stands s k r [] (struck s r) h)
    ∙ same b.0 b.1 b.2 j b.3
  where
    same : {ds ds' ls ls' js js' : List ℕ} {n n' e e' : ℕ} → ds ≡ ds' → ls ≡ ls' → n ≡ n' → js ≡ js' → e ≡ e' → lent ds ls n js e ≡ lent ds' ls' n' js' e'
    same p q m i o = cc
