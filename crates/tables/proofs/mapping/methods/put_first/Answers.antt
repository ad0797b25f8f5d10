-- What is turned by one and written over is the list without the address, behind the address.
use Rattle.std.proofs.Common.{◌≡◌, ◌+◌, ◌∷◌, ◌<◌, length, take, eqb, sym, ap, subst, ◌-◌, ◌∙◌, arith, rules, tests, drop, ◌++◌, suc}
use Rattle.std.specs.List.{position}
use Rattle.std.specs.Option.{unwrap_or}
use Rattle.std.proofs.lemmas.List.{length-take}
use Rattle.std.proofs.lemmas.Iterator.{YieldsList-from_slice}
use Rattle.std.proofs.lemmas.Iterator.Search.{position_from_yields_List}
use Rattle.tables.proofs.Remembering.{place_within, put_in_front, without_at}
use Rattle.tables.proofs.mapping.methods.put_first.Goals as goal

pub returns : goal.returns
returns c =
    let a = c.args.address in
    let xs = c.args.addresses.now in
    let k = c.unwrap_or-last.result in
    let found : c.position.result ≡ position (λ x. eqb x a) xs = position_from_yields_List (λ x. eqb x a) _ _ _ c.position.ensures.ran (YieldsList-from_slice xs cc) (λ x b q k. search (rules, tests)) in
    let place : k ≡ unwrap_or (position (λ x. eqb x a) xs) 15 = c.unwrap_or-last.ensures ∙ ap (λ o. unwrap_or o 15) found in
    let within : k < length xs = subst (λ j. j < length xs) (sym place) (place_within (λ x. eqb x a) xs 15 (omega arith)) in
    let part = take (k + 1) xs in
    let long : length part - 1 ≡ k = omega (arith, length-take (k + 1) xs) in
    put_in_front a xs c.rotate_right.new.self k within (c.rotate_right.ensures.after ∙ ap (λ j. drop j part ++ take j part) long)
    ∙ ap (λ n. a ∷ (take n xs ++ drop (suc n) xs)) place ∙ ap (λ zs. a ∷ zs) (without_at a xs 15 (omega arith))
