use Rattle.std.proofs.Common.{◌≡◌, List, [], ◌∷◌, ◌++◌, take, length, ap, sym, ◌∙◌, le_of_lt}
use Rattle.std.proofs.lemmas.List.{length-take-le, take_more_set}
use Rattle.numbering.specs.Numbers.{Laws, Numbered}
use Rattle.numbering.proofs.Deciding.{equivalence_laws}
use Rattle.numbering.proofs.Entering.{known_appearance, new_appearance}
use Rattle.numbering.proofs.list.Numbering.number.Given as given
use Rattle.numbering.proofs.list.Numbering.number.Goals as goal

laws : (g : given.Over) → Laws g.K.PartialEq.eq
laws g = equivalence_laws g.met.K.Eq.laws

pub returns-in-Some-clause-appearance : goal.returns-in-Some-clause-appearance
returns-in-Some-clause-appearance g c = known_appearance (laws g) c.args.self.now.room c.args.element c.args.self.now.items c.in-Some.number c.in-Some.ensures.value

pub returns-clause-appearance : goal.returns-clause-appearance
returns-clause-appearance g c =
    let n = c.self.inside.len in
    let s = c.self.inside.slots.now in
    let i = c.if-number-self.false in
    let held : take n s ≡ c.args.self.now.items = ap (λ (v : Numbered _). v.items) c.self.view_is in
    let size : n ≡ length c.args.self.now.items = sym (length-take-le n s (le_of_lt i)) ∙ ap length held in
    let more = take_more_set s n c.args.element i ∙ ap (λ (l : List _). l ++ (c.args.element ∷ [])) held in
    new_appearance (laws g) c.args.self.now.room c.args.element c.args.self.now.items c.in_default.ensures.value n _ size more
