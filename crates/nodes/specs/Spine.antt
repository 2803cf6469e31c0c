-- A spine runs from a member, an index or a call through its object or callee.
use Rattle.std.specs.Prelude.{Some, None, Option}
use Rattle.nodes.specs.declared.kind.Kind.{Kind}
use Rattle.nodes.specs.declared.kind.Kind.TheVariants as K
use Rattle.nodes.specs.declared.spine.Link.{Link}

abbrev pub link_of : Kind → Option Link
link_of K.Null = None
link_of (K.Number x) = None
link_of (K.String s) = None
link_of (K.Boolean b) = None
link_of (K.Name i) = None
link_of K.EmptyArray = None
link_of (K.Unary o a) = None
link_of (K.Binary o a b) = None
link_of (K.Template s r) = None
link_of (K.Member a s m) = Some (record { part = a; optional = m })
link_of (K.Index a b m) = Some (record { part = a; optional = m })
link_of (K.Call a r m) = Some (record { part = a; optional = m })
link_of (K.Chain a) = None
link_of (K.Sequence a r) = None
