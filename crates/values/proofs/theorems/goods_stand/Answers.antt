use Rattle.std.proofs.Common.{refl}
use Rattle.values.specs.Texts.{goods_text}
use Rattle.values.specs.Values.{goods_columns}
use Rattle.values.specs.Together.{reads_back, told_goods, no_goods_stand, longest_goods}
use Rattle.values.proofs.theorems.goods_stand.Goals as goal

pub returns : goal.returns
returns c =
    record {
      zero = refl;
      back = reads_back goods_columns goods_text told_goods;
      apart = told_goods;
      refused = no_goods_stand;
      longest = longest_goods;
    }
