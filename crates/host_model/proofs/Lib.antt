pub mod Bytes
pub mod CallsLemmas
pub mod Images
pub mod MovesLemmas
pub mod StoresLemmas
pub mod LeavesLemmas
pub mod AltersLemmas
