mod MarkLemmas
mod StreamLemmas
mod VarlenLemmas
mod VersionLemmas
