-- Why the bodies meet their contracts.
mod Inserting
mod Shapes
mod Segments
mod Readings
mod Forms
mod Leads
mod Walks
mod Computed
mod Paths
mod CallLemmas
mod ValueLemmas
mod Places
mod ElementLemmas
mod FieldLemmas
mod HeadLemmas
mod HostLemmas
mod LengthLemmas
mod LineLemmas
mod StatusNumbers
pub mod ScanLemmas
pub mod Texts
pub mod BodyLemmas
