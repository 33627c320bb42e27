-- A head that is being read.
--   front_view f     what it stands for
--   IsFront f        it is so short as a head may be, and its lists belong together
use Rattle.std.specs.Prelude.{◌≡◌, ◌≤◌, length}
use Rattle.workload_text.specs.declared.front.Front.{Front}
use Rattle.workload_text.specs.Values.{HeadValue, labels_of, names_most, edges_most}

-- the head as far as it was read
abbrev pub front_view : Front → HeadValue
front_view f = record {
  format = f.format;
  labels = f.labels.items;
  types = f.types.items;
  schema = record { kinds = f.kinds.items; edges = f.edges.items };
}

-- a type has a name and a kind, and an edge has its label
pub record IsFront (f : Front) : Type 0 where
  pub few_labels : length f.labels.items ≤ names_most
  pub few_types : length f.types.items ≤ names_most
  pub few_edges : length f.edges.items ≤ edges_most
  pub kinds : length f.kinds.items ≡ length f.types.items
  pub labels : f.edge_labels.items ≡ labels_of f.edges.items
