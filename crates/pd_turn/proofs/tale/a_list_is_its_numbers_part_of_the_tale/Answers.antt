use Rattle.std.proofs.Common.{ap, refl, sym}
use Rattle.pd_turn.specs.Turns.{items_of}
use Rattle.pd_turn.proofs.Items.{grown, nobody, unmoved}
use Rattle.pd_turn.proofs.tale.a_list_is_its_numbers_part_of_the_tale.Goals as goal

pub returns : goal.returns
returns c = λ start.
    record {
      none = λ n tale e. ap (items_of n) e;
      made = λ tale is. nobody tale is;
      own = λ n before new. sym (grown n before (items_of n before) new _ refl refl);
      others = λ n other before new differ. sym (unmoved n other before (items_of n before) new _ (λ e. differ (sym e)) refl refl);
    }
