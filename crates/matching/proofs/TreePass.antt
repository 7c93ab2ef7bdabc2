-- A pass over a tree of the listing ends as it should, whether it goes through or finds the row sought. Assumes nothing.
use mathlib.Core.Path.{◌≡◌, refl, sym, ap, ◌∙◌}
use mathlib.Core.Bool.{false}
use mathlib.Core.List.{List}
use Prim.Native.Nat.{ℕ, suc, ◌+◌, ◌≤◌, ◌<◌}
use native.Mathlib.Omega.{arith}
use native.Mathlib.Decide.{dec_le, ℕ_discrete}
use lib.ListN.{length, get_or}
use Rattle.rows.specs.Rows.{at, Row, depth, descendants, last_row}
use Rattle.rows.specs.Forest.{size, forest_at, below}
use Rattle.rows.specs.Embedding.{SameLabel}
use Rattle.rows.proofs.Order.{Compared, less, same, more, compared}
use Rattle.rows.proofs.Windows.{window_below, size_below}
use Rattle.matching.specs.Family.{parent}
use Rattle.matching.specs.CornerRow.{Chained}
use Rattle.matching.specs.Shape.{word, Foreign}
use Rattle.matching.specs.Asked.{Asked, chain, Keep, Extends}
use Rattle.matching.specs.Room.{recipe_of, Written, closed, joined, alone, joined_alone}
use Rattle.matching.specs.Path.{OnPath, Within, Told, Put, Kept, Blank, Met, FirstPlace, met, none}
use Rattle.matching.specs.declared.plain.Plain.{Plain}
use Rattle.matching.specs.Engine.{Sought, Found, Through, BareTo, PlainTo, tree_at, corner_of, with_tree}
use Rattle.matching.proofs.AskedLaws.{asked_fewer, after_asked}
use Rattle.matching.proofs.Chains.{chained_deep, chained_inside}
use Rattle.matching.proofs.Foreign.{bare_without, foreign_none, foreign_tells}
use Rattle.matching.proofs.TreeJoins.{Enters, corner_of_fits, alone_none, below_last, alone_ends, leaf_ends, chains_more, tree_corner, tree_ends}
use Rattle.matching.proofs.PlainLaws.{chain_alone, plain_without, plain_idle}
use Rattle.matching.proofs.Passes.{chain_deep, chain_low, chain_here, found_below, found_here}
use Rattle.matching.proofs.PathLaws.{path_same, told_same, kept_wide, kept_both, kept_one, joint, path_tree, on_first, within_down, path_down}

module _ {ws rl td tl asked rs : List ℕ} {base q l first : ℕ} (en : Enters ws rl td tl asked rs base q l first) where
  abbrev rd : List ℕ
  rd = recipe_of ws rl

  abbrev Fit : ℕ → ℕ → Type 0
  Fit = SameLabel rl tl

  abbrev last : ℕ
  last = last_row td (suc first)

  abbrev TreeThrough : List ℕ → List ℕ → List ℕ → List ℕ → Type 0
  TreeThrough ls us ss ms =
      Through ws rl td tl asked rs ls base q (λ i. with_tree ws rl td tl first (chain asked i) (get_or rs (base + i) 0)) l first last us ss ms

  abbrev TreeFound : List ℕ → ℕ → List ℕ → List ℕ → List ℕ → Type 0
  TreeFound ls t us ss ms = Found ws rl td tl asked ls l first last t us ss ms

  row : Row td (suc first)
  row = omega (arith, en.inside)

  -- a bare row
  module _ {r : ℕ} (bare : BareTo ws td tl first r) where
    foreign : (y : ℕ) → suc first < y → y ≤ last → Foreign ws (at tl y)
    foreign y a c = bare.foreign y a (omega (arith, bare.last))

    without : (v : ℕ) → Row rd v → 1 ≤ descendants rd v → Within Fit rd td v (suc first) → ⊥
    without v = bare_without ws rl td tl en.ready (suc first) v foreign

    empty : (x : ℕ) → x ≤ length rd → corner_of ws rl tl (below td (suc first)) x ≡ 0
    empty x h =
        let w = window_below td en.ready.listing.outline (suc first) row in
        foreign_none ws rl td tl en.ready (suc first) (below td (suc first)) w.stands (λ y a c. foreign y a (omega (arith, size_below td en.ready.listing.outline (suc first) row))) x h

    module _ {ls ms : List ℕ} (p : Put ls first 63 l ms) where
      -- the row itself gets 63, and the rows below it fit no row of the path
      bare_told : (y : ℕ) → first < y → y ≤ last → Dec (y ≤ suc first) → Told Fit rd td asked l ms y
      bare_told y a c (yes e) i v m n o =
          let s : y ≡ suc first = omega arith in
          rw (s, p.here (omega (arith, o.few))) (λ h. absurd (without v o.row o.inner (suc first, omega arith, omega arith, h)), λ f w. absurd (omega arith))
      bare_told y a c (no e) i v m n o = foreign_tells ws rl td tl en.ready asked l ms y (foreign y (omega arith) c) i v m n o

      pub bare_through : {ss : List ℕ} → Written rs base q (joined_alone ws rl (at tl (suc first)) asked rs base) ss → (r ≡ last) × TreeThrough ls asked ss ms
      bare_through v = (
        bare.last,
        record {
          ends = leaf_ends en empty v;
          none = λ o. without (chain asked 0) (en.sought.path.rows 0 o) (en.sought.path.inner 0 o);
          told = λ y a c. bare_told y a c (dec_le y (suc first));
          kept = kept_one ls first 63 l ms last (omega arith) p;
        },
      )

  -- a row with rows below it
  module _ (kids : 1 ≤ descendants td (suc first)) {us : List ℕ} {z : ℕ} (x : Extends ws asked rs base q q us z) where
    abbrev pub below_end : ℕ
    below_end = suc first + size (forest_at td (suc first) (depth td (suc (suc first))))

    abbrev value : ℕ → ℕ
    value i = corner_of ws rl tl (forest_at td (suc first) (depth td (suc (suc first)))) (chain us i)

    abbrev pub BelowThrough : List ℕ → List ℕ → List ℕ → List ℕ → Type 0
    BelowThrough ls vs ss ms = Through ws rl td tl us rs ls (base + q) z value l (suc first) below_end vs ss ms

    last_row_lem : below_end ≡ last
    last_row_lem = below_last td en.ready.listing.outline first en.inside kids

    kept_path : Keep asked us l
    kept_path i o = x.keep i (omega (arith, en.sought.few))

    -- a tree of one label that gives the chains asked no more than its first row alone
    module _ {p : Plain} (plain : PlainTo ws rl td tl us z first p) where
      abbrev name : ℕ
      name = at tl (suc first)

      chains : Asked (length rd) us z
      chains = chains_more en kids x

      one_name : (y : ℕ) → first < y → y ≤ last → at tl y ≡ name
      one_name y a c = plain.tree.same y a (omega (arith, plain.tree.last))

      with_path : (v j : ℕ) → j < l → Row rd v → 1 ≤ descendants rd v → Chained rd (chain asked j) v → Within Fit rd td v (suc first) → ⊥
      with_path v j o r n c =
          plain_without ws rl td tl en.ready first en.inside one_name us z chains plain.alone j v (omega (arith, x.least, en.sought.few)) r n (rw (kept_path j o) c)

      on_chain : (i : ℕ) → i < z → alone ws rl name (chain us i) ≡ corner_of ws rl tl (tree_at td first) (chain us i)
      on_chain = chain_alone ws rl td tl en.ready first en.inside one_name us z chains plain.alone

      pub plain_through : {ls ms : List ℕ} → Blank ls first p.end l ms → {ss : List ℕ} → Written rs base q (joined_alone ws rl name us rs base) ss
          → (p.end ≡ last) × TreeThrough ls us ss ms
      plain_through {ls} {ms} n {ss} w = (
        plain.tree.last,
        record {
          ends = alone_ends en (asked_fewer (length rd) us q z x.least chains) x.keep x.path
              (λ i o. rw (x.keep i o) at (on_chain i (omega (arith, x.least))))
              (after_asked x (λ (v : ℕ). alone ws rl name v ≡ corner_of ws rl tl (tree_at td first) v) on_chain (alone_none ws rl name)) w;
          none = λ o. with_path (chain asked 0) 0 o (en.sought.path.rows 0 o) (en.sought.path.inner 0 o) (omega arith, refl);
          told = λ y a c i v m g o. rw (n.none (omega (arith, o.few)) y a (omega (arith, plain.tree.last)))
              (λ h. absurd (with_path v o.nth o.few o.row o.inner o.on (y, omega arith, c, h)), λ f w. absurd (omega arith));
          kept = rw plain.tree.last at n.kept;
        },
      )

      -- where no left-most leaf has the label, nothing is to be written
      pub plain_still : p.joins ≡ false → Written rs base q (joined_alone ws rl name us rs base) rs
      plain_still e = plain_idle ws rl td tl en.ready asked rs us base q z name x chains (plain.idle e)

    pub sought_below : Sought ws rl us z l
    sought_below = record { some = omega (arith, x.least, en.sought.some); few = omega (arith, x.least, en.sought.few); path = path_same rd asked us l kept_path en.sought.path }

    -- a row found below the first is found in the tree
    pub below_found : {ls : List ℕ} {t : ℕ} {vs ss ms : List ℕ} → Found ws rl td tl us ls l (suc first) below_end t vs ss ms → TreeFound ls t vs ss ms
    below_found {ls} {t} {vs} {ss} {ms} f =
        record {
          some = f.some;
          found = found_below ws rl td tl en.ready (chain asked 0) (en.sought.path.rows 0 f.some) first en.inside t (rw (last_row_lem, kept_path 0 f.some) at f.found);
          words = f.words;
          logged = record {
            keep = λ i e. f.logged.keep i e ∙ kept_path i e;
            told = λ y a c. told_same Fit rd td asked us l ms y kept_path (f.logged.told y a c);
            kept = kept_wide ls (suc (suc first)) (last_row td t) (suc first) (last_row td t) ms (omega arith) (omega arith) f.logged.kept;
          };
        }

    module _ {ls vs rs₁ ms₁ : List ℕ} (p : BelowThrough ls vs rs₁ ms₁) {rs₂ : List ℕ}
        (v : Written rs₁ (base + q) z (closed ws rl (at tl (suc first)) vs rs₁ (base + q)) rs₂) where
      kept_chains : Keep asked vs l
      kept_chains i o = p.ends.keep i (omega (arith, x.least, en.sought.few)) ∙ kept_path i o

      corner : (i : ℕ) → i < l → get_or rs₂ (base + q + i) 0 ≡ corner_of ws rl tl (tree_at td first) (chain asked i)
      corner i o =
          tree_corner en kids x p.ends v i (omega (arith, x.least, en.sought.few))
          ∙ ap (corner_of ws rl tl (tree_at td first)) (kept_chains i o)

      abbrev w : ℕ → ℕ
      w i = get_or rs₂ (base + q + i) 0

      w_row : (i : ℕ) → i < l → w i ≤ length rd
      w_row i o = rw (corner i o) (corner_of_fits ws rl td tl en.ready (tree_at td first) (chain asked i) (en.sought.path.rows i o).1)

      -- the depths of the corners and of the chains, as the words have them
      w_word : (i : ℕ) → i < l → word 3 ws (w i) ≡ depth rd (w i)
      w_word i o = en.ready.shape.depths (w i) (w_row i o)

      chain_word : (i : ℕ) → i < l → word 3 ws (chain vs i) ≡ depth rd (chain asked i)
      chain_word i o = ap (word 3 ws) (kept_chains i o) ∙ en.ready.shape.depths (chain asked i) (en.sought.path.rows i o).1

      w_deep : (i : ℕ) → i < l → 1 ≤ w i → depth rd (chain asked i) ≤ depth rd (w i)
      w_deep i o = chain_deep ws rl td tl en.ready (chain asked i) (en.sought.path.rows i o) first en.inside (w i) (corner i o)

      pub below_fits : (i : ℕ) → i < l → (chain vs i ≤ 256) × (w i ≤ 256) × (1 ≤ w i → word 3 ws (chain vs 0) ≤ word 3 ws (w i))
      below_fits i o = (
        omega (arith, kept_chains i o, en.sought.path.rows i o, en.ready.shape.few),
        omega (arith, w_row i o, en.ready.shape.few),
        λ c. omega (arith, chain_word 0 (omega arith), w_word i o, w_deep i o c, path_tree rd en.ready.outline asked l en.sought.path 0 i (omega arith) o),
      )

      -- a place fits six bits
      pub place_fits : {place : ℕ} → FirstPlace ws vs rs₂ (base + q) l place → place ≤ 63
      place_fits (met i o n g e) = omega (arith, e, w_word i o, en.ready.shallow (w i) (g.0, w_row i o))
      place_fits (none n e) = omega arith

      module _ {place : ℕ} (f : FirstPlace ws vs rs₂ (base + q) l place) {ms : List ℕ} (note : Put ms₁ first place l ms) where
        -- a corner tells of the path where the tree includes a row of its chain that stands on the path
        within_met : (i v : ℕ) → (o : OnPath rd asked l i v) → Within Fit rd td v (suc first) → Met ws vs l o.nth (w o.nth) × (depth rd (w o.nth) ≤ depth rd v)
        within_met i v o c =
            let j = o.nth in
            let x = chain_low ws rl td tl en.ready (chain asked j) (en.sought.path.rows j o.few) first en.inside (w j) (corner j o.few) v o.row o.on c in
            ((x.0, λ n. omega (arith, w_word j o.few, chain_word (suc j) n, x.1, o.high n)), x.1)

        -- so the place is no farther down than any row of the path that the tree includes
        place_low : (i v : ℕ) → OnPath rd asked l i v → Within Fit rd td v (suc first) → place ≤ i
        place_low i v o c = go f (within_met i v o c)
          where
            go : FirstPlace ws vs rs₂ (base + q) l place → Met ws vs l o.nth (w o.nth) × (depth rd (w o.nth) ≤ depth rd v) → place ≤ i
            go (none n e) m = absurd (n o.nth o.few m.0)
            go (met j d n g e) m = side (compared j o.nth)
              where
                side : Compared j o.nth → place ≤ i
                side (more a) = absurd (n o.nth a m.0)
                side (same a) = omega (arith, e, w_word j d, chain_word 0 (omega arith), ap (λ (n : ℕ). depth rd (w n)) a, m.1, o.deep)
                side (less a) =
                    let t = path_tree rd en.ready.outline asked l en.sought.path (suc j) o.nth a o.few in
                    omega (arith, e, w_word j d, chain_word 0 (omega arith), g.1 (omega (arith, o.few)), chain_word (suc j) (omega (arith, o.few)), t.2, o.deep, on_deep)
                  where
                    on_deep : depth rd (chain asked o.nth) ≤ depth rd v
                    on_deep = omega (arith, chained_deep rd en.ready.outline (chain asked o.nth) (en.sought.path.rows o.nth o.few) v o.on)

        -- and the tree includes all rows of the path from the place on
        place_within : (i v : ℕ) → i < 63 → OnPath rd asked l i v → place ≤ i → Within Fit rd td v (suc first)
        place_within i v low o c = go f
          where
            go : FirstPlace ws vs rs₂ (base + q) l place → Within Fit rd td v (suc first)
            go (none n e) = absurd (omega arith)
            go (met j d n g e) = at_row (chain_here ws rl td tl en.ready (chain asked j) (en.sought.path.rows j d) first en.inside (w j) (corner j d) g.0)
              where
                -- the corner stands no deeper than v
                deep : depth rd (w j) ≤ depth rd v
                deep = omega (arith, e, w_word j d, chain_word 0 (omega arith), o.deep)

                at_row : (u : ℕ) × Row rd u × Chained rd (chain asked j) u × (depth rd u ≡ depth rd (w j)) × Within Fit rd td u (suc first) → Within Fit rd td v (suc first)
                at_row (u, q, a, b, i) = side (compared j o.nth)
                  where
                    top : Row rd (chain asked j)
                    top = en.sought.path.rows j d

                    -- a row of the corner's chain that is no higher than the corner
                    down : (y : ℕ) → Chained rd (chain asked j) y → depth rd (w j) ≤ depth rd y → Within Fit rd td y (suc first)
                    down y e l =
                        let n : u ≤ y = omega (arith, chained_deep rd en.ready.outline (chain asked j) top y e, chained_deep rd en.ready.outline (chain asked j) top u a, b, e.0, a.0) in
                        within_down Fit rd td en.ready.outline en.ready.listing.outline u y (suc first) q n
                        (chained_inside rd en.ready.outline u q y (n, e.1 ∙ sym a.1)) row i

                    side : Compared j o.nth → Within Fit rd td v (suc first)
                    side (same z) = down v (rw z o.on) deep
                    side (less z) =
                        let n : suc j < l = omega (arith, o.few) in
                        let q = joint rd en.ready.outline asked l en.sought.path j n in
                        path_down Fit rd td en.ready.outline en.ready.listing.outline asked l en.sought.path j o.nth v (suc first) z o.few o.on row
                        (down (parent rd (chain asked (suc j))) (en.sought.path.down j n) (omega (arith, g.1 n, w_word j d, chain_word (suc j) n, q.step)))
                    side (more z) =
                        let n : suc o.nth < l = omega (arith, d) in
                        let t = path_tree rd en.ready.outline asked l en.sought.path (suc o.nth) j z d in
                        absurd (omega (arith, o.high n, t.2, w_deep j d g.0, deep))

        here_told : Told Fit rd td asked l ms (suc first)
        here_told i v m n o =
            rw (note.here (omega (arith, o.few))) (λ e. place_low i v o (suc first, omega arith, omega arith, e), λ c e. place_within i v n o e)

        all_told : (y : ℕ) → first < y → y ≤ last → Told Fit rd td asked l ms y
        all_told y a c = go (ℕ_discrete y (suc first))
          where
            go : Dec (y ≡ suc first) → Told Fit rd td asked l ms y
            go (yes e) = rw e here_told
            go (no e) = λ i v m n o. rw (note.others y e) (told_same Fit rd td asked us l ms₁ y kept_path (p.told y (omega arith) (rw last_row_lem c)) i v m n o)

        all_kept : Kept ls (suc first) last ms
        all_kept =
            kept_both ls (suc first) last ms₁ ms (rw last_row_lem at (kept_wide ls (suc (suc first)) below_end (suc first) below_end ms₁ (omega arith) (omega arith) p.kept))
            (kept_one ms₁ first place l ms last (omega arith) note)

        -- a path begins with the row sought
        begins : place ≡ 0 → 1 ≤ l
        begins e = go f
          where
            go : FirstPlace ws vs rs₂ (base + q) l place → 1 ≤ l
            go (none n o) = absurd (omega arith)
            go (met j d n g o) = omega arith

        pub tree_found : place ≡ 0 → TreeFound ls (suc first) vs rs₂ ms
        tree_found e =
            let o = begins e in
            let c = place_within 0 (chain asked 0) (omega arith) (on_first rd en.ready.outline asked l en.sought.path o) (omega arith) in
            record {
              some = o;
              found = found_here ws rl td tl en.ready (chain asked 0) (en.sought.path.rows 0 o) first en.inside c (λ i. p.none o (rw (last_row_lem, kept_path 0 o) i));
              words = (asked_fewer (length rd) vs l z (omega (arith, x.least, en.sought.few)) p.ends.chains, v.size ∙ p.ends.words);
              logged = record { keep = kept_chains; told = λ y a c. all_told y (omega arith) c; kept = all_kept };
            }

        pub tree_through : (place ≡ 0 → ⊥) → {r : ℕ} → r ≡ below_end → {ss : List ℕ} → Written rs₂ base q (joined ws rl vs rs₂ base q) ss
            → (r ≡ last) × TreeThrough ls vs ss ms
        tree_through e m j = (
          m ∙ last_row_lem,
          record {
            ends = tree_ends en kids x p.ends v j;
            none = λ o c. e (zero_of (place_low 0 (chain asked 0) (on_first rd en.ready.outline asked l en.sought.path o) c));
            told = all_told;
            kept = all_kept;
          },
        )
          where
            zero_of : place ≤ 0 → place ≡ 0
            zero_of i = omega arith
