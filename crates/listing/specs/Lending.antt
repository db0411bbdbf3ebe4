-- What each part of listing leaves of the array that moves are listed in (document 01, "Moves, in order"): the store is as it was, the array is the same
-- and as long as it was, and no fewer moves are listed. What is answered is the words left.
use Rattle.std.specs.Prelude.{◌≡◌, List, ℕ, ◌≤◌, length, Option, IfSome}
use Rattle.listing.specs.declared.lister.Lister.{Lister}

pub record Kept (b e : Lister) (r : Option ℕ) : Type 0 where
  pub same_store : e.store.now ≡ b.store.now
  pub same_array : e.acts.ghost_name ≡ b.acts.ghost_name
  pub same_length : length e.acts.now ≡ length b.acts.now
  pub no_fewer : b.count ≤ e.count
  pub few_left : IfSome r (λ n. n ≤ 65535)

-- D of the lister that was b and is e, and of the answer r: of the store, of how many moves are listed and the array, before and after.
abbrev pub Into : (List ℕ → ℕ → List ℕ → ℕ → List ℕ → Option ℕ → Type 0) → Lister → Lister → Option ℕ → Type 0
Into D b e r = D b.store.now b.count b.acts.now e.count e.acts.now r
