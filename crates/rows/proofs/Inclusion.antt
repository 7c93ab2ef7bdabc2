-- An embedding by rows is an inclusion of forests, and back. Assumes nothing.
use mathlib.Core.Path.{◌≡◌, refl, sym, ap, subst₂, ◌∙◌}
use mathlib.Core.Bool.{true, false}
use mathlib.Core.List.{List, [], ◌∷◌}
use mathlib.Core.Logic.{◌↔◌}
use Prim.Native.Nat.{ℕ, zero, suc, ◌+◌, ◌≤◌, ◌<◌}
use native.Mathlib.Omega.{arith}
use native.Mathlib.Decide.{dec_le}
use lib.Dec.{leb}
use lib.ListN.{length}
use borrow.Author.Tests.{le-leb, lt-leb}
use Rattle.rows.specs.Rows.{at, Row, Outline, last_row, Ancestor, LeftOf}
use Rattle.rows.specs.Forest.{Forest, nil, cons, size, beside, forest}
use Rattle.rows.specs.Stands.{Stands, Among}
use Rattle.rows.specs.Embedding.{Embeds, Included, LiesIn, done, pair, skip}
use Rattle.rows.proofs.Depths.{inside_ends}
use Rattle.rows.proofs.Order.{Compared, less, same, more, compared, Apart, above, below, before, behind, apart, Later, in_tree, past_tree, later, window, behind_window}
use Rattle.rows.proofs.Flat.{size_beside}
use Rattle.rows.proofs.Stands.{stands_skip}
use Rattle.rows.proofs.Windows.{stands_forest, size_forest}

module _ (Fit : ℕ → ℕ → Type 0) (rd td : List ℕ) where
  -- an embedding of some rows embeds fewer
  pub embeds_part : (S T : ℕ → Type 0) (e : ℕ → ℕ) → ((v : ℕ) → T v → S v) → Embeds Fit rd td S e → Embeds Fit rd td T e
  embeds_part S T e f k =
      record {
        lands = λ v h. k.lands v (f v h);
        fits = λ v h. k.fits v (f v h);
        once = λ u v g h. k.once u v (f u g) (f v h);
        ancestor = λ u v g h. k.ancestor u v (f u g) (f v h);
        left = λ u v g h. k.left u v (f u g) (f v h);
      }

  -- it is enough that ancestry and left-of are carried over: of two rows just one of the four holds
  module _ (kr : Outline rd) (S : ℕ → Type 0) (e : ℕ → ℕ) (rows : (v : ℕ) → S v → Row rd v)
      (up : (u v : ℕ) → S u → S v → Ancestor rd u v → Ancestor td (e u) (e v)) (on : (u v : ℕ) → S u → S v → LeftOf rd u v → LeftOf td (e u) (e v)) where
    data Kept (u v : ℕ) : Type 0 where
      alike : u ≡ v → Kept u v
      over : Ancestor rd u v → Ancestor td (e u) (e v) → Kept u v
      under : Ancestor rd v u → Ancestor td (e v) (e u) → Kept u v
      first : LeftOf rd u v → LeftOf td (e u) (e v) → Kept u v
      second : LeftOf rd v u → LeftOf td (e v) (e u) → Kept u v

    kept : (u v : ℕ) → S u → S v → Kept u v
    kept u v g h = go (compared u v)
      where
        cases : Apart rd u v → Kept u v
        cases (above a) = over a (up u v g h a)
        cases (below a) = under a (up v u h g a)
        cases (before a) = first a (on u v g h a)
        cases (behind a) = second a (on v u h g a)

        go : Compared u v → Kept u v
        go (less o) = cases (apart rd kr u v (rows u g) (rows v h) (λ z. omega arith))
        go (same o) = alike o
        go (more o) = cases (apart rd kr u v (rows u g) (rows v h) (λ z. omega arith))

    back_up : (u v : ℕ) → Kept u v → Ancestor td (e u) (e v) → Ancestor rd u v
    back_up u v (alike o) a = absurd (omega (arith, ap e o))
    back_up u v (over b c) a = b
    back_up u v (under b c) a = absurd (omega arith)
    back_up u v (first b c) a = absurd (omega arith)
    back_up u v (second b c) a = absurd (omega arith)

    back_on : (u v : ℕ) → Kept u v → LeftOf td (e u) (e v) → LeftOf rd u v
    back_on u v (alike o) a = absurd (omega (arith, ap e o))
    back_on u v (over b c) a = absurd (omega arith)
    back_on u v (under b c) a = absurd (omega arith)
    back_on u v (first b c) a = b
    back_on u v (second b c) a = absurd (omega arith)

    single : (u v : ℕ) → Kept u v → e u ≡ e v → u ≡ v
    single u v (alike o) s = o
    single u v (over b c) s = absurd (omega arith)
    single u v (under b c) s = absurd (omega arith)
    single u v (first b c) s = absurd (omega arith)
    single u v (second b c) s = absurd (omega arith)

    pub embeds_from : ((v : ℕ) → S v → Row td (e v)) → ((v : ℕ) → S v → Fit v (e v)) → Embeds Fit rd td S e
    embeds_from lands fits =
        record {
          lands = lands;
          fits = fits;
          once = λ u v g h. single u v (kept u v g h);
          ancestor = λ u v g h. (up u v g h, back_up u v (kept u v g h));
          left = λ u v g h. (on u v g h, back_on u v (kept u v g h));
        }

  -- e embeds the rows of p, which stand after row y, in the rows of f, which stand after row z
  pub record Maps (p : Forest ℕ) (y : ℕ) (f : Forest ℕ) (z : ℕ) (e : ℕ → ℕ) : Type 0 where
    pub embeds : Embeds Fit rd td (Among y (size p)) e
    pub inside : (v : ℕ) → Among y (size p) v → Among z (size f) (e v)

module _ (Fit : ℕ → ℕ → Type 0) (rd td : List ℕ) (kr : Outline rd) (kt : Outline td) where
  -- the first root of p has the first root of f for its image, or all images lie behind that root
  module _ (a : ℕ) (p q : Forest ℕ) (y b : ℕ) (f g : Forest ℕ) (z : ℕ) (e : ℕ → ℕ) (sp : Stands rd y (cons a p q)) (sf : Stands td z (cons b f g))
      (k : Maps Fit rd td (cons a p q) y (cons b f g) z e) where
    abbrev All : ℕ → Type 0
    All = Among y (size (cons a p q))

    row : (v : ℕ) → All v → y + suc (size p + size q) ≤ length rd → Row rd v
    row v h l = omega arith

    maps_skip : suc z < e (suc y) → y + suc (size p + size q) ≤ length rd → Maps Fit rd td (cons a p q) y (beside f g) (suc z) e
    maps_skip o l = record { embeds = k.embeds; inside = λ v h. (go v h (compared (suc y) v), omega (arith, k.inside v h, size_beside f g)) }
      where
        go : (v : ℕ) → All v → Compared (suc y) v → suc z < e v
        go v h (less i) = on (later rd kr (suc y) v (row (suc y) (omega arith) l) (row v h l) i)
          where
            on : Later rd kr (suc y) v → suc z < e v
            on (in_tree c) = omega (arith, (k.embeds.ancestor (suc y) v (omega arith) h).0 c)
            on (past_tree c) = omega (arith, (k.embeds.left (suc y) v (omega arith) h).0 c)
        go v h (same i) = rw i at o
        go v h (more i) = absurd (omega arith)

    module _ (top : e (suc y) ≡ suc z) (l : y + suc (size p + size q) ≤ length rd) where
      root_fits : Fit a b
      root_fits = subst₂ Fit (sym sp.0) (top ∙ sym sf.0) (k.embeds.fits (suc y) (omega arith))

      maps_below : Maps Fit rd td p (suc y) f (suc z) e
      maps_below =
          record {
            embeds = embeds_part Fit rd td All (Among (suc y) (size p)) e (λ v h. omega arith) k.embeds;
            inside = λ v h.
                let t : All v = omega arith in
                let u : All (suc y) = omega arith in
                let w = (window rd kr (suc y) v (row (suc y) u l) (row v t l)).1 (omega arith, omega (arith, sp.2)) in
                let c = rw top at ((k.embeds.ancestor (suc y) v u t).0 w) in
                let x = (window td kt (suc z) (e v) (omega (arith, sf.1)) (k.embeds.lands v t)).0 c in
                omega (arith, sf.2);
          }

      maps_beside : Maps Fit rd td q (suc (y + size p)) g (suc (z + size f)) e
      maps_beside =
          record {
            embeds = embeds_part Fit rd td All (Among (suc (y + size p)) (size q)) e (λ v h. omega arith) k.embeds;
            inside = λ v h.
                let t : All v = omega arith in
                let u : All (suc y) = omega arith in
                let w = (behind_window rd kr (suc y) v (row (suc y) u l) (row v t l)).1 (omega (arith, sp.2)) in
                let c = rw top at ((k.embeds.left (suc y) v u t).0 w) in
                let x = (behind_window td kt (suc z) (e v) (omega (arith, sf.1)) (k.embeds.lands v t)).0 c in
                omega (arith, sf.2, k.inside v t);
          }

  -- p lies in each smaller forest of which it has a map
  abbrev Smaller : ℕ → Type 0
  Smaller n = (p : Forest ℕ) (y : ℕ) (f : Forest ℕ) (z : ℕ) (e : ℕ → ℕ) → size f < n → y + size p ≤ length rd → Stands rd y p → Stands td z f
      → Maps Fit rd td p y f z e → LiesIn Fit p f

  lies_one : (n : ℕ) → Smaller n → Smaller (suc n)
  lies_one n ih nil y f z e h l sp sf k = done
  lies_one n ih (cons a p q) y nil z e h l sp sf k = absurd (omega (arith, k.inside (suc y) (omega arith)))
  lies_one n ih (cons a p q) y (cons b f g) z e h l sp sf k = go (dec_le (e (suc y)) (suc z))
    where
      go : Dec (e (suc y) ≤ suc z) → LiesIn Fit (cons a p q) (cons b f g)
      go (yes u) =
          let top : e (suc y) ≡ suc z = omega (arith, k.inside (suc y) (omega arith)) in
          pair (root_fits a p q y b f g z e sp sf k top l)
          (ih p (suc y) f (suc z) e (omega arith) (omega arith) sp.3 sf.3 (maps_below a p q y b f g z e sp sf k top l))
          (ih q (suc (y + size p)) g (suc (z + size f)) e (omega arith) (omega arith) sp.4 sf.4 (maps_beside a p q y b f g z e sp sf k top l))
      go (no u) =
          skip (ih (cons a p q) y (beside f g) (suc z) e (omega (arith, size_beside f g)) l sp (stands_skip td z b f g sf)
          (maps_skip a p q y b f g z e sp sf k (omega arith) l))

  to_lies : (n : ℕ) → Smaller n
  to_lies zero = λ p y f z e h l sp sf k. absurd (omega arith)
  to_lies (suc n) = lies_one n (to_lies n)

  -- two maps beside one another, under a first root
  abbrev glue : ℕ → ℕ → ℕ → (ℕ → ℕ) → (ℕ → ℕ) → ℕ → ℕ
  glue y n z d e v = elim (leb v (suc y)) [ true ↦ suc z | false ↦ elim (leb v (suc y + n)) [ true ↦ d v | false ↦ e v ] ]

  module _ (a : ℕ) (p q : Forest ℕ) (y b : ℕ) (f g : Forest ℕ) (z : ℕ) (d e : ℕ → ℕ) (sp : Stands rd y (cons a p q)) (sf : Stands td z (cons b f g))
      (l : y + suc (size p + size q) ≤ length rd) (m : z + suc (size f + size g) ≤ length td) (fit : Fit a b)
      (kp : Maps Fit rd td p (suc y) f (suc z) d) (kq : Maps Fit rd td q (suc (y + size p)) g (suc (z + size f)) e) where
    abbrev joined : ℕ → ℕ
    joined = glue y (size p) z d e

    abbrev Both : ℕ → Type 0
    Both = Among y (size (cons a p q))

    data Place (v : ℕ) : Type 0 where
      top : v ≡ suc y → joined v ≡ suc z → Place v
      inn : Among (suc y) (size p) v → joined v ≡ d v → Among (suc z) (size f) (d v) → Place v
      out : Among (suc (y + size p)) (size q) v → joined v ≡ e v → Among (suc (z + size f)) (size g) (e v) → Place v

    place : (v : ℕ) → Both v → Place v
    place v h = go (dec_le v (suc y)) (dec_le v (suc y + size p))
      where
        go : Dec (v ≤ suc y) → Dec (v ≤ suc y + size p) → Place v
        go (yes i) c = top (omega arith) (rw (le-leb v (suc y) i, glue))
        go (no i) (yes j) = inn (omega arith) (rw (lt-leb v (suc y) (omega arith), le-leb v (suc y + size p) j, glue)) (kp.inside v (omega arith))
        go (no i) (no j) = out (omega arith) (rw (lt-leb v (suc y) (omega arith), lt-leb v (suc y + size p) (omega arith), glue)) (kq.inside v (omega arith))

    in_f : (v : ℕ) → Place v → Among z (size (cons b f g)) (joined v)
    in_f v (top i j) = omega arith
    in_f v (inn i j w) = omega arith
    in_f v (out i j w) = omega arith

    fits : (v : ℕ) → Place v → Fit v (joined v)
    fits v (top i j) = subst₂ Fit (sp.0 ∙ sym i) (sf.0 ∙ sym j) fit
    fits v (inn i j w) = rw j (kp.embeds.fits v i)
    fits v (out i j w) = rw j (kq.embeds.fits v i)

    row_of : (v : ℕ) → Both v → Row rd v
    row_of v h = omega arith

    land : (v : ℕ) → Place v → Row td (joined v)
    land v h = omega (arith, in_f v h)

    root : Row td (suc z)
    root = omega (arith, sf.1)

    up : (u v : ℕ) → Place u → Place v → Row rd u → Row rd v → Ancestor rd u v → Ancestor td (joined u) (joined v)
    up u v (top i j) (top s t) r w c = absurd (omega arith)
    up u v (top i j) (inn s t x) r w c = rw (j, t) ((window td kt (suc z) (d v) root (kp.embeds.lands v s)).1 (omega (arith, sf.2)))
    up u v (top i j) (out s t x) r w c =
        absurd (omega (arith, (window rd kr u v r w).0 c, ap (last_row rd) i, sp.2))
    up u v (inn i j h) (top s t) r w c = absurd (omega arith)
    up u v (inn i j h) (inn s t x) r w c = rw (j, t) ((kp.embeds.ancestor u v i s).0 c)
    up u v (inn i j h) (out s t x) r w c =
        absurd (omega (arith, (window rd kr u v r w).0 c, inside_ends rd (suc y) u (omega arith) (omega arith) (omega (arith, sp.2)), sp.2))
    up u v (out i j h) (top s t) r w c = absurd (omega arith)
    up u v (out i j h) (inn s t x) r w c = absurd (omega arith)
    up u v (out i j h) (out s t x) r w c = rw (j, t) ((kq.embeds.ancestor u v i s).0 c)

    on : (u v : ℕ) → Place u → Place v → Row rd u → Row rd v → LeftOf rd u v → LeftOf td (joined u) (joined v)
    on u v (top i j) (top s t) r w c = absurd (omega arith)
    on u v (top i j) (inn s t x) r w c = absurd (omega (arith, (behind_window rd kr u v r w).0 c, ap (last_row rd) i, sp.2))
    on u v (top i j) (out s t x) r w c = rw (j, t) ((behind_window td kt (suc z) (e v) root (kq.embeds.lands v s)).1 (omega (arith, sf.2)))
    on u v (inn i j h) (top s t) r w c = absurd (omega arith)
    on u v (inn i j h) (inn s t x) r w c = rw (j, t) ((kp.embeds.left u v i s).0 c)
    on u v (inn i j h) (out s t x) r w c =
        rw (j, t)
        ((behind_window td kt (d u) (e v) (kp.embeds.lands u i) (kq.embeds.lands v s)).1
        (omega (arith, inside_ends td (suc z) (d u) root (omega arith) (omega (arith, sf.2)), sf.2)))
    on u v (out i j h) (top s t) r w c = absurd (omega arith)
    on u v (out i j h) (inn s t x) r w c = absurd (omega arith)
    on u v (out i j h) (out s t x) r w c = rw (j, t) ((kq.embeds.left u v i s).0 c)

    maps_glue : Maps Fit rd td (cons a p q) y (cons b f g) z joined
    maps_glue =
        record {
          embeds = embeds_from Fit rd td kr Both joined row_of (λ u v i h. up u v (place u i) (place v h) (row_of u i) (row_of v h))
              (λ u v i h. on u v (place u i) (place v h) (row_of u i) (row_of v h)) (λ v h. land v (place v h)) (λ v h. fits v (place v h));
          inside = λ v h. in_f v (place v h);
        }

  nothing : (y : ℕ) (f : Forest ℕ) (z : ℕ) → Maps Fit rd td nil y f z (λ v. 0)
  nothing y f z =
      record {
        embeds = record {
          lands = λ v h. absurd (omega arith);
          fits = λ v h. absurd (omega arith);
          once = λ u v g h. absurd (omega arith);
          ancestor = λ u v g h. absurd (omega arith);
          left = λ u v g h. absurd (omega arith);
        };
        inside = λ v h. absurd (omega arith);
      }

  from_lies : {p f : Forest ℕ} → LiesIn Fit p f → (y z : ℕ) → y + size p ≤ length rd → z + size f ≤ length td → Stands rd y p → Stands td z f
      → (e : ℕ → ℕ) × Maps Fit rd td p y f z e
  from_lies {f} done y z l m sp sf = (λ v. 0, nothing y f z)
  from_lies (pair {a} {b} {p} {q} {f} {g} h i j) y z l m sp sf =
      let s = from_lies i (suc y) (suc z) (omega arith) (omega arith) sp.3 sf.3 in
      let t = from_lies j (suc (y + size p)) (suc (z + size f)) (omega arith) (omega arith) sp.4 sf.4 in
      (glue y (size p) z s.0 t.0, maps_glue a p q y b f g z s.0 t.0 sp sf l m h s.1 t.1)
  from_lies (skip {b} {p} {f} {g} i) y z l m sp sf =
      let s = from_lies i y (suc z) l (omega (arith, size_beside f g)) sp (stands_skip td z b f g sf) in
      (s.0, record { embeds = s.1.embeds; inside = λ v h. omega (arith, s.1.inside v h, size_beside f g) })

  -- rows that stand as forests: one embeds in the other just where its forest lies in the other's
  pub maps_iff : (p : Forest ℕ) (y : ℕ) (f : Forest ℕ) (z : ℕ) → y + size p ≤ length rd → z + size f ≤ length td → Stands rd y p → Stands td z f
      → ((e : ℕ → ℕ) × Maps Fit rd td p y f z e) ↔ LiesIn Fit p f
  maps_iff p y f z l m sp sf = (λ k. to_lies (suc (size f)) p y f z k.0 (omega arith) l sp sf k.1, λ i. from_lies i y z l m sp sf)

-- a map as a list of images
abbrev pub listed : ℕ → (ℕ → ℕ) → List ℕ
listed zero e = []
listed (suc n) e = e 1 ∷ listed n (λ v. e (suc v))

pub length_listed : (n : ℕ) (e : ℕ → ℕ) → length (listed n e) ≡ n
length_listed zero e = refl
length_listed (suc n) e = ap suc (length_listed n (λ v. e (suc v)))

pub at_listed : (n : ℕ) (e : ℕ → ℕ) (v : ℕ) → 1 ≤ v → v ≤ n → at (listed n e) v ≡ e v
at_listed zero e v a b = absurd (omega arith)
at_listed (suc n) e zero a b = absurd (omega arith)
at_listed (suc n) e (suc zero) a b = refl
at_listed (suc n) e (suc (suc i)) a b = at_listed n (λ v. e (suc v)) (suc i) (omega arith) (omega arith)

module _ (Fit : ℕ → ℕ → Type 0) (rd td : List ℕ) where
  -- maps that agree on the rows embed alike
  pub embeds_same : (S : ℕ → Type 0) (d e : ℕ → ℕ) → ((v : ℕ) → S v → d v ≡ e v) → Embeds Fit rd td S e → Embeds Fit rd td S d
  embeds_same S d e f k =
      record {
        lands = λ v h. rw (f v h) (k.lands v h);
        fits = λ v h. rw (f v h) (k.fits v h);
        once = λ u v g h s. k.once u v g h (sym (f u g) ∙ s ∙ f v h);
        ancestor = λ u v g h. rw (f u g, f v h) (k.ancestor u v g h);
        left = λ u v g h. rw (f u g, f v h) (k.left u v g h);
      }

-- the listing includes the recipe just where the recipe's forest lies in the listing's
pub included_iff : (Fit : ℕ → ℕ → Type 0) (rd td : List ℕ) → Outline rd → Outline td → Included Fit rd td ↔ LiesIn Fit (forest rd) (forest td)
included_iff Fit rd td kr kt =
    let x = size_forest rd kr in
    let y = size_forest td kt in
    let m = maps_iff Fit rd td kr kt (forest rd) 0 (forest td) 0 (omega arith) (omega arith) (stands_forest rd kr) (stands_forest td kt) in (
      λ i.
          m.0 (
            at i.0,
            record {
              embeds = embeds_part Fit rd td (Row rd) (Among 0 (size (forest rd))) (at i.0) (λ v h. omega arith) i.1.embeds;
              inside = λ v h. omega (arith, i.1.embeds.lands v (omega arith));
            },
          ),
      λ i.
          let k = m.1 i in (
            listed (length rd) k.0,
            record {
              count = length_listed (length rd) k.0;
              embeds = embeds_same Fit rd td (Row rd) (at (listed (length rd) k.0)) k.0 (λ v h. at_listed (length rd) k.0 v h.0 h.1)
                  (embeds_part Fit rd td (Among 0 (size (forest rd))) (Row rd) k.0 (λ v h. omega arith) k.1.embeds);
            },
          ),
    )
