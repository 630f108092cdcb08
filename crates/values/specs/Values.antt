-- The columns of points and of goods. Assumes nothing.
use Rattle.std.specs.Prelude.{List, ℤ}
use Rattle.values.specs.declared.goods.Goods.{Goods}
use Rattle.values.specs.declared.points.Points.{Points}

abbrev pub points_columns : Points → List ℤ
points_columns v = v.columns.numbers

abbrev pub goods_columns : Goods → List ℤ
goods_columns v = v.columns.numbers
