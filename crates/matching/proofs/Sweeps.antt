-- A search forest by forest: each forest behind the one before, until a row is found. Assumes nothing.
use mathlib.Core.Path.{◌≡◌, refl, ap, ◌∙◌}
use mathlib.Core.List.{List}
use Prim.Native.Nat.{ℕ, suc, ◌+◌, ◌-◌, ◌≤◌, ◌<◌}
use native.Mathlib.Omega.{arith}
use native.Mathlib.Decide.{dec_le}
use lib.ListN.{length, set}
use Rattle.std.specs.declared.ops.ControlFlow.TheVariants.{Continue}
use Rattle.rows.specs.Rows.{Row, depth, last_row}
use Rattle.rows.specs.Forest.{size, forest_at}
use Rattle.rows.specs.Embedding.{SameLabel}
use Rattle.rows.proofs.Windows.{at_step, window_at}
use Rattle.matching.specs.Asked.{Asked, Keep, chain, path_chains}
use Rattle.matching.specs.EarliestClose.{Holds}
use Rattle.matching.specs.Placing.{HeldIn, HeldDeep, FirstIn}
use Rattle.matching.specs.Room.{recipe_of, room_words}
use Rattle.matching.specs.Path.{logged, PathAsked}
use Rattle.matching.specs.Engine.{Ready, Begins, Sought, Found, Passed}
use Rattle.matching.specs.Window.{Whole}
use Rattle.matching.proofs.AskedLaws.{path_keep, path_asked, path_noted}
use Rattle.matching.proofs.FirstIn.{narrow}
use Rattle.matching.proofs.Held.{stands_ends}
use Rattle.matching.proofs.Passes.{none_more, found_more}
use Rattle.matching.proofs.PathLaws.{path_same, told_same}
use Rattle.matching.proofs.Written.{room_below}

-- of the rows behind `first` rows those up to row r are passed, none of them holds the row sought, and the log has changed for them alone
pub record Clear (ws rl td tl asked ls : List ℕ) (l first : ℕ) (us ss ms : List ℕ) (r : ℕ) : Type 0 where
  pub start : first ≤ r
  pub chains : Asked (length (recipe_of ws rl)) us l
  pub keep : Keep asked us l
  pub path : path_chains us ≡ l
  pub words : length ss ≡ room_words
  pub stays : (y : ℕ) → (suc first ≤ y → y ≤ r → ⊥) → logged ms y ≡ logged ls y
  pub none : HeldIn (SameLabel rl tl) (recipe_of ws rl) td (chain asked 0) (suc first) r → ⊥

lower : (e d : ℕ) → e ≤ d → 64 - d ≤ 64 - e
lower e d o = omega arith

-- a search begins once the number of the path's chains is noted
module _ {ws rl td tl : List ℕ} (k : Ready ws rl td tl) {chains : List ℕ} {l : ℕ} (given : PathAsked (recipe_of ws rl) chains l) where
  abbrev rd : List ℕ
  rd = recipe_of ws rl

  abbrev asked : List ℕ
  asked = set chains 256 l

  same : Keep chains asked l
  same = path_keep (length rd) k.shape.few chains l l given.chains

  same_first : chain asked 0 ≡ chain chains 0
  same_first = same 0 given.some

  noted : PathAsked rd asked l
  noted =
      record {
        some = given.some;
        chains = path_asked (length rd) k.shape.few chains l l given.chains;
        path = path_same rd chains asked l same given.path;
        room = rw same_first given.room;
      }

  row : Row rd (chain asked 0)
  row = noted.path.rows 0 given.some

  module _ {ls : List ℕ} {first : ℕ} where
    pub sweep_none : {rs : List ℕ} → length rs ≡ room_words → Clear ws rl td tl asked ls l first asked rs ls first
    sweep_none w =
        record {
          start = omega arith;
          chains = noted.chains;
          keep = λ i h. refl;
          path = path_noted (length rd) k.shape.few chains l l given.chains;
          words = w;
          stays = λ y o. refl;
          none = λ i. omega (arith, i.1, i.2);
        }

    module _ {us ss ms : List ℕ} {r : ℕ} (c : Clear ws rl td tl asked ls l first us ss ms r) {end : ℕ}
        (held : HeldDeep (SameLabel rl tl) rd td (chain chains 0) (suc first) end) (whole : Whole td first end) where
      h : HeldDeep (SameLabel rl tl) rd td (chain asked 0) (suc first) end
      h = rw same_first held

      -- the next forest stands no higher than the row sought
      module _ (n : r < end) where
        deep : depth rd (chain asked 0) ≤ depth td (suc r)
        deep = go (dec_le h.0 r)
          where
            go : Dec (h.0 ≤ r) → depth rd (chain asked 0) ≤ depth td (suc r)
            go (yes i) = absurd (c.none (h.0, h.1, i, h.3))
            go (no i) = h.4 (suc r) (omega (arith, c.start)) (omega arith)

        pub sweep_sought : Sought ws rl us l (path_chains us)
        sweep_sought = rw c.path record { some = given.some; few = omega arith; path = path_same rd asked us l c.keep noted.path }

        pub sweep_begins : Begins ws rl us ss 0 l (depth td (suc r))
        sweep_begins =
            record { chains = c.chains; words = c.words; room = room_below (length rd) l (64 - depth td (suc r)) (64 - depth rd (chain asked 0)) room_words (lower (depth rd (chain asked 0)) (depth td (suc r)) deep) noted.room }

        abbrev d : ℕ
        d = depth td (suc r)

        abbrev last : ℕ
        last = r + size (forest_at td r d)

        -- it is passed, ..
        module _ {value : ℕ → ℕ} {e : ℕ} {vs ts os : List ℕ} (passed : Passed ws rl td tl us ss ms 0 l value (path_chains us) r last (Continue e) vs ts os) where
          pub sweep_less : length td - e < length td - r
          sweep_less = omega (arith, whole.0, passed.0, ap size (at_step td r d (omega (arith, whole.0)) refl))

          pub sweep_next : Clear ws rl td tl asked ls l first vs ts os e
          sweep_next =
              let y = rw c.path at passed.1 in
              rw passed.0
              record {
                start = omega (arith, c.start);
                chains = y.ends.chains;
                keep = λ i h. y.ends.keep i h ∙ c.keep i h;
                path = y.ends.path ∙ c.path;
                words = y.ends.words;
                stays = λ y' o. y.kept.stays y' (λ a b. o (omega (arith, c.start)) b) ∙ c.stays y' (λ a b. o a (omega arith));
                none = none_more ws rl td tl k (chain asked 0) row first r last c.start c.none (rw (c.keep 0 given.some) at (y.none given.some));
              }

        -- .. or the row is found in it, which is the first of the window
        module _ {t : ℕ} {vs ts os : List ℕ} (hit : Found ws rl td tl us ms (path_chains us) r last t vs ts os) where
          f : Found ws rl td tl us ms l r last t vs ts os
          f = rw c.path at hit

          fits : last ≤ length td
          fits = (window_at td k.listing.outline r d (omega (arith, whole.0)) (λ i. omega arith)).fits

          inside : last_row td t ≤ last
          inside =
              stands_ends td r (forest_at td r d) (window_at td k.listing.outline r d (omega (arith, whole.0)) (λ i. omega arith)).stands t
              (omega (arith, f.found.low, f.found.high))

          found : FirstIn td (Holds (SameLabel rl tl) rd td (chain asked 0)) (suc first) (length td) t
          found =
              found_more ws rl td tl k (chain asked 0) row first r last c.start c.none t (length td) fits (omega arith) inside
              (rw (c.keep 0 given.some) at f.found)

          pub sweep_found : Found ws rl td tl chains ls l first end t vs ts os
          sweep_found =
              record {
                some = f.some;
                found = rw same_first at
                    (narrow td k.listing.outline _ (suc first) end (length td) t (omega arith) whole.0 (omega arith) whole.1 h.0 h.1 h.2 h.3 found);
                words = f.words;
                logged = record {
                  keep = λ i h. f.logged.keep i h ∙ c.keep i h ∙ same i h;
                  told = λ y a b.
                      told_same (SameLabel rl tl) rd td chains us l os y (λ i h. c.keep i h ∙ same i h) (f.logged.told y a b);
                  kept = record {
                    size = f.logged.kept.size;
                    stays = λ y o. f.logged.kept.stays y (λ a b. o (omega (arith, c.start)) b) ∙ c.stays y (λ a b. o a (omega (arith, f.found.low)));
                  };
                };
              }
