-- A list as its first n bytes and the rest, written back.
use Rattle.std.proofs.Common.{◌≡◌, ℕ, ◌-◌, List, [], ◌++◌, length, take, drop, ap, ◌∙◌, arith}
use borrow.Rule.Slice.PartMut.{put_mid}
use Rattle.std.proofs.lemmas.List.{append-nil, drop_all, length-drop}

-- what stands behind the first n, put back after it was written
pub rest_back : (n : ℕ) (xs c : List ℕ) → put_mid n (length xs - n) xs c ≡ take n xs ++ c
rest_back n xs c =
    let none : drop (length xs - n) (drop n xs) ≡ [] = drop_all (length xs - n) (drop n xs) (omega (arith, length-drop n xs)) in
    ap (λ ys. take n xs ++ (c ++ ys)) none ∙ ap (λ ys. take n xs ++ ys) (append-nil c)
