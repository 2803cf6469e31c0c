use Rattle.std.proofs.Common.{[], set, refl, sym, ap, ◌∙◌}
use Rattle.std.proofs.lemmas.List.{get_or-map, map-set, set-get_or}
use Rattle.names.specs.Table.{text_of, class_of, listed, texts}
use Rattle.names.proofs.table.Names.classify.Goals as goal

pub returns-in-Some-clause-classes : goal.returns-in-Some-clause-classes
returns-in-Some-clause-classes c = map-set class_of (listed c.args.self.now) c.args.i _

pub returns-in-Some-clause-texts : goal.returns-in-Some-clause-texts
returns-in-Some-clause-texts c =
    let names = listed c.args.self.now in
    let i = c.args.i in
    let same = get_or-map text_of names i c.in-Some.name.now [] (c.in-Some.ensures.variant.0 refl) ∙ ap text_of (sym c.in-Some.ensures.value) in
    map-set text_of names i _ ∙ ap (set (texts c.args.self.now) i) (sym same) ∙ set-get_or (texts c.args.self.now) i []
