-- Lists of which the first members are the same, or the last.
use Rattle.std.proofs.Common.{◌≡◌, ℕ, ◌+◌, ◌<◌, ◌≤◌, List, get_or, take, drop, sym, ap, ◌∙◌}
use Rattle.std.proofs.lemmas.List.{drop-drop, get_or-drop, get_or-take, take-take}

module _ {X : Type 0} where
  -- fewer of the first are the same too
  pub fewer_same : (xs ys : List X) (n k : ℕ) → k ≤ n → take n xs ≡ take n ys → take k xs ≡ take k ys
  fewer_same xs ys n k le same = sym (take-take k n xs le) ∙ ap (take k) same ∙ take-take k n ys le

  pub same_at : (xs ys : List X) (n k : ℕ) (d : X) → k < n → take n xs ≡ take n ys → get_or xs k d ≡ get_or ys k d
  same_at xs ys n k d lt same = sym (get_or-take n xs k d lt) ∙ ap (λ l. get_or l k d) same ∙ get_or-take n ys k d lt

  -- and fewer of the last
  pub later_same : (xs ys : List X) (i j k : ℕ) → drop i xs ≡ drop j ys → drop (i + k) xs ≡ drop (j + k) ys
  later_same xs ys i j k same = sym (drop-drop k i xs) ∙ ap (drop k) same ∙ drop-drop k j ys

  pub same_later : (xs ys : List X) (i j k : ℕ) (d : X) → drop i xs ≡ drop j ys → get_or xs (i + k) d ≡ get_or ys (j + k) d
  same_later xs ys i j k d same = sym (get_or-drop i xs k d) ∙ ap (λ l. get_or l k d) same ∙ get_or-drop j ys k d
