pub mod FirstWorker
