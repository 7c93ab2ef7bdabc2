-- The plain judge: its search tells inclusion, and its contract leaves one answer. Assumes nothing.
use mathlib.Core.Path.{◌≡◌, refl, subst}
use mathlib.Core.Bool.{Bool, true, false, false≢true}
use mathlib.Core.List.{List}
use mathlib.Core.Logic.{◌↔◌}
use Prim.Native.Nat.{ℕ}
use lib.ListN.{length}
use Rattle.std.specs.Prelude.{Result, Ok, Err}
use Rattle.rows.specs.Forest.{forest}
use Rattle.rows.specs.Embedding.{SameLabel, Included}
use Rattle.rows.proofs.Inclusion.{included_iff}
use Rattle.matching.specs.declared.Refusal.{Refusal}
use Rattle.matching.specs.Refusals.{GoodTables, tables_check}
use Rattle.matching.specs.Judge.{Judged, Tells}
use Rattle.matching.proofs.Refusals.{tables_fine}
use Rattle.matching.proofs.Search.{draws_forest}

module _ (rd rl td tl : List ℕ) where
  -- on good tables a search of all rows tells whether the listing includes the recipe
  pub tells_included : GoodTables rd rl td tl → (r : Bool) → Tells rd rl 0 (length rd) td tl 0 (length td) r → (r ≡ true) ↔ Included (SameLabel rl tl) rd td
  tells_included g r told =
      let recipe = g.recipe_formed.outline in
      let listing = g.listing_formed.outline in
      let lies = told (forest rd) (forest td) (draws_forest rd recipe) (draws_forest td listing) in
      let included = included_iff (SameLabel rl tl) rd td recipe listing in
      (λ e. included.1 (lies.0 e), λ i. lies.1 (included.0 i))

  -- so it is the judge's answer
  pub judged : tables_check rd rl td tl ≡ Ok tt → (r : Bool) → Tells rd rl 0 (length rd) td tl 0 (length td) r → Judged rd rl td tl (Ok r)
  judged fine r told = go r (tells_included ((tables_fine rd rl td tl).0 fine) r told)
    where
      go : (r : Bool) → (r ≡ true) ↔ Included (SameLabel rl tl) rd td → Judged rd rl td tl (Ok r)
      go true i = (fine, i.0 refl)
      go false i = (fine, λ h. false≢true (i.1 h))

  -- the same, by what the search says
  pub judged_yes : tables_check rd rl td tl ≡ Ok tt → (r : Bool) → Tells rd rl 0 (length rd) td tl 0 (length td) r → r ≡ true → Judged rd rl td tl (Ok true)
  judged_yes fine r told e = subst (λ (s : Bool). Judged rd rl td tl (Ok s)) e (judged fine r told)

  pub judged_no : tables_check rd rl td tl ≡ Ok tt → (r : Bool) → Tells rd rl 0 (length rd) td tl 0 (length td) r → r ≡ false → Judged rd rl td tl (Ok false)
  judged_no fine r told e = subst (λ (s : Bool). Judged rd rl td tl (Ok s)) e (judged fine r told)

  -- two answers of the judge that meet the contract are equal
  pub judge_one : (r s : Result Bool Refusal) → Judged rd rl td tl r → Judged rd rl td tl s → r ≡ s
  judge_one (Ok true) (Ok true) h k = refl
  judge_one (Ok true) (Ok false) h k = absurd (k.1 h.1)
  judge_one (Ok true) (Err y) h k = cc
  judge_one (Ok false) (Ok true) h k = absurd (h.1 k.1)
  judge_one (Ok false) (Ok false) h k = refl
  judge_one (Ok false) (Err y) h k = cc
  judge_one (Err x) (Ok true) h k = cc
  judge_one (Err x) (Ok false) h k = cc
  judge_one (Err x) (Err y) h k = cc
