pub mod BestLines
pub mod NodesOneByOne
