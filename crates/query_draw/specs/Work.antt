-- What matrices of words are worked out with.
--   IsWork g w    it is that of a schema
use Rattle.std.specs.Prelude.{◌≡◌, ◌≤◌, length, map}
use Rattle.std.specs.List.{range_with_len}
use Rattle.sel_algebra.specs.Table.{types_most}
use Rattle.gm_config.specs.Limits.{labels_most}
use Rattle.schema_graph.specs.Schema.{SchemaValue}
use Rattle.query_draw.specs.declared.along.Work.{Work}
use Rattle.query_draw.specs.Columns.{AreGrowing, labelled}

-- the growing types, the edges of each label, and matrices over the types
pub record IsWork (g : SchemaValue) (w : Work) : Type 0 where
  pub few : length g.kinds ≤ types_most
  pub growing : AreGrowing g.kinds w.growing
  pub edges : w.edges.items ≡ map (labelled g.edges) (range_with_len 0 labels_most)
  pub word : length w.word ≡ length g.kinds
  pub longer : length w.longer ≡ length g.kinds
  pub union : length w.union ≡ length g.kinds
  pub spine : length w.spine ≡ length g.kinds
